-- Checking declarations one after another, and that a text is exactly one of: a problem's, refused for a name, refused for a
-- use, without a shape.
use Rattle.std.specs.Prelude.{ℕ, zero, suc, ◌≡◌, ◌+◌, ◌⊎◌, List, [], ◌∷◌, ◌++◌, map, drop, Option, Some, None, Result, Ok, Err, slice_get, refl}
use Rattle.std.proofs.Common.{sym, ◌∙◌, ap, arith, inl, inr}
use Rattle.std.proofs.lemmas.Option.{none-some}
use Rattle.std.specs.Option.{option_or, unwrap_or}
use Rattle.soqe_syntax.specs.declared.piece.Span.{Span}
use Rattle.soqe_syntax.specs.Grammar as syntax
use Rattle.soqe_syntax.specs.Pieces.{HasProblem}
use Rattle.soqe_syntax.specs.declared.shape.Item.{Item}
use Rattle.soqe_syntax.specs.Shapes.{declared_view}
use Rattle.soqe_signature.specs.Declarations.{Declaration}
use Rattle.soqe_parse.specs.Faults.{IsFaultAt}
use Rattle.soqe_parse.proofs.Places.{one_problem, fault_or_problem}
use Rattle.soqe_text.specs.declared.problem.Problem.{Problem}
use Rattle.soqe_text.specs.declared.problem.Problem.TheVariants as problem
use Rattle.soqe_text.specs.Naming.{named_problem}
use Rattle.soqe_text.specs.Uses.{all_below, wrong_in_one, wrong_in_declared, wrong_in_problem, free_sorts}
use Rattle.soqe_text.specs.Numbering.{numbered}
use Rattle.soqe_text.specs.Spelled.{IsNamed, Spells, HasNameFault, HasSortFault}

pub one_more_below : {A : Type 0} (n : ℕ) (f : ℕ → A) → all_below (n + 1) f ≡ all_below n f ++ f n ∷ []
one_more_below n f = let e : n + 1 ≡ suc n = omega arith in ap (λ m. all_below m f) e

-- declarations from a place on, after the one at that place
declared_at : (bytes : List ℕ) (ds : List Declaration) (items : List Item) (n : ℕ) (x : Item) → slice_get items n ≡ Some x
    → wrong_in_declared bytes ds (map declared_view (drop n items))
    ≡ option_or (wrong_in_one bytes ds (declared_view x)) (wrong_in_declared bytes ds (map declared_view (drop (suc n) items)))
declared_at bytes ds [] n x h = absurd (none-some x h)
declared_at bytes ds (y ∷ items) zero x h =
    ap (λ y. option_or (wrong_in_one bytes ds (declared_view y)) (wrong_in_declared bytes ds (map declared_view items))) (ap (λ o. unwrap_or o y) h)
declared_at bytes ds (y ∷ items) (suc n) x h = declared_at bytes ds items n x h

pub right_step : (bytes : List ℕ) (ds : List Declaration) (items : List Item) (n : ℕ) (x : Item) → slice_get items n ≡ Some x
    → wrong_in_one bytes ds (declared_view x) ≡ None
    → wrong_in_declared bytes ds (map declared_view (drop n items)) ≡ wrong_in_declared bytes ds (map declared_view (drop (n + 1) items))
right_step bytes ds items n x h right =
    let e : suc n ≡ n + 1 = omega arith in
    declared_at bytes ds items n x h
    ∙ ap (λ o. option_or o (wrong_in_declared bytes ds (map declared_view (drop (suc n) items)))) right
    ∙ ap (λ m. wrong_in_declared bytes ds (map declared_view (drop m items))) e

pub wrong_there : (bytes : List ℕ) (ds : List Declaration) (items : List Item) (n : ℕ) (x : Item) (at : ℕ) → slice_get items n ≡ Some x
    → wrong_in_one bytes ds (declared_view x) ≡ Some at → wrong_in_declared bytes ds (map declared_view (drop n items)) ≡ Some at
wrong_there bytes ds items n x at h wrong =
    declared_at bytes ds items n x h ∙ ap (λ o. option_or o (wrong_in_declared bytes ds (map declared_view (drop (suc n) items)))) wrong

-- names that are known
abbrev as_result : {A : Type 0} → A → Result A ℕ
as_result a = Ok a

-- what is said of names known and refused cannot both hold
ok-err : {A : Type 0} (a : A) (at : ℕ) → as_result a ≡ Err at → ⊥
ok-err a at h = cc

ok-is : {A : Type 0} (a b : A) → as_result a ≡ Ok b → a ≡ b
ok-is a b h = ap (λ r. elim r [ Ok x ↦ x | Err e ↦ a ]) h

same_tree : (bytes : List ℕ) (ds es : List Declaration) (t u : syntax.Problem Span) → IsNamed bytes ds t → IsNamed bytes es u → (t ≡ u) × (ds ≡ es)
same_tree bytes ds es t u h k =
    let e = one_problem bytes t u h.shape k.shape in
    (e, ok-is ds es (sym h.named ∙ ap (named_problem bytes) e ∙ k.named))

-- a text spells one problem
pub one_spelled : (bytes : List ℕ) (p q : Problem) → Spells bytes p → Spells bytes q → p ≡ q
one_spelled bytes p q h k =
    let same = same_tree bytes h.declared k.declared h.tree k.tree h.well_named k.well_named in
    h.numbered ∙ (λ i. problem.Elim (same.1 i) (numbered bytes (same.1 i) (free_sorts (same.1 i)) (same.0 i).goal)) ∙ sym k.numbered

-- a text that spells a problem has no refused name
pub spelled_or_names : (bytes : List ℕ) (p : Problem) (at : ℕ) → Spells bytes p → HasNameFault bytes at → ⊥
spelled_or_names bytes p at h k =
    ok-err h.declared at (sym h.well_named.named ∙ ap (named_problem bytes) (one_problem bytes h.tree k.tree h.well_named.shape k.shape) ∙ k.refused)

-- a text that spells a problem has no wrong use
pub spelled_or_sorts : (bytes : List ℕ) (p : Problem) (at : ℕ) → Spells bytes p → HasSortFault bytes at → ⊥
spelled_or_sorts bytes p at h k =
    let same = same_tree bytes h.declared k.declared h.tree k.tree h.well_named k.well_named in
    none-some at (sym h.well_sorted ∙ (λ i. wrong_in_problem bytes (same.1 i) (same.0 i)) ∙ k.refused)

-- a text whose names are refused has no wrong use
pub names_or_sorts : (bytes : List ℕ) (at other : ℕ) → HasNameFault bytes at → HasSortFault bytes other → ⊥
names_or_sorts bytes at other h k =
    ok-err k.declared at (sym k.well_named.named ∙ ap (named_problem bytes) (one_problem bytes k.tree h.tree k.well_named.shape h.shape) ∙ h.refused)

-- a text with a shape spells a problem, or has a refused name, or a wrong use
pub shape_reads : (bytes : List ℕ) (t : syntax.Problem Span) → HasProblem bytes t
    → ((p : Problem) × Spells bytes p) ⊎ (((at : ℕ) × HasNameFault bytes at) ⊎ ((at : ℕ) × HasSortFault bytes at))
shape_reads bytes t shape = by (named_problem bytes t) refl
  where
    uses : (ds : List Declaration) → named_problem bytes t ≡ Ok ds → (r : Option ℕ) → wrong_in_problem bytes ds t ≡ r
        → ((p : Problem) × Spells bytes p) ⊎ (((at : ℕ) × HasNameFault bytes at) ⊎ ((at : ℕ) × HasSortFault bytes at))
    uses ds named None e =
        inl (problem.Elim ds (numbered bytes ds (free_sorts ds) t.goal), record { tree = t; declared = ds; well_named = record { shape = shape; named = named }; well_sorted = e; numbered = refl })
    uses ds named (Some at) e = inr (inr (at, record { tree = t; declared = ds; well_named = record { shape = shape; named = named }; refused = e }))

    by : (r : Result (List Declaration) ℕ) → named_problem bytes t ≡ r
        → ((p : Problem) × Spells bytes p) ⊎ (((at : ℕ) × HasNameFault bytes at) ⊎ ((at : ℕ) × HasSortFault bytes at))
    by (Ok ds) e = uses ds e (wrong_in_problem bytes ds t) refl
    by (Err at) e = inr (inl (at, record { tree = t; shape = shape; refused = e }))

pub spelled_alone : (bytes : List ℕ) (p : Problem) (at : ℕ) → Spells bytes p → (IsFaultAt bytes at ⊎ (HasNameFault bytes at ⊎ HasSortFault bytes at)) → ⊥
spelled_alone bytes p at h refused = elim refused [
  | inl fault ↦ fault_or_problem bytes at h.tree fault h.well_named.shape
  | inr rest ↦ elim rest [ inl names ↦ spelled_or_names bytes p at h names | inr sorts ↦ spelled_or_sorts bytes p at h sorts ]
]

pub one_reason : (bytes : List ℕ) (at other : ℕ) → (IsFaultAt bytes at → (HasNameFault bytes other ⊎ HasSortFault bytes other) → ⊥) × (HasNameFault bytes at → HasSortFault bytes other → ⊥)
one_reason bytes at other = (
  (λ fault refused. elim refused [
    | inl names ↦ fault_or_problem bytes at names.tree fault names.shape
    | inr sorts ↦ fault_or_problem bytes at sorts.tree fault sorts.well_named.shape
  ]),
  names_or_sorts bytes at other,
)
