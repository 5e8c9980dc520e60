-- Sorts that declarations name are known, and reading declarations one after another.
use Rattle.std.specs.Prelude.{ℕ, zero, suc, ◌≡◌, ◌<◌, ◌+◌, true, nat_lt, List, [], ◌∷◌, ◌++◌, length, map, drop, Option, Some, None, Ok, Err, slice_get, refl}
use Rattle.std.proofs.Common.{sym, ◌∙◌, ap, subst, arith}
use Rattle.std.proofs.lemmas.Bool.{cond-true}
use Rattle.std.proofs.lemmas.Option.{none-some, slice_get_within}
use Rattle.std.specs.Option.{unwrap_or}
use Rattle.soqe_syntax.specs.declared.piece.Span.{Span}
use Rattle.soqe_syntax.specs.Grammar as syntax
use Rattle.soqe_syntax.specs.Pieces.{text_at}
use Rattle.soqe_syntax.specs.declared.shape.Item.{Item}
use Rattle.soqe_syntax.specs.Shapes.{declared_view}
use Rattle.soqe_signature.specs.declared.kinds.Kind.{Kind}
use Rattle.soqe_signature.specs.declared.kinds.Kind.TheVariants as kind
use Rattle.soqe_signature.specs.declared.kinds.NameKind.TheVariants as numbering
use Rattle.soqe_signature.specs.Declarations.{Declaration, Found, numbering_of, of_numbering, count_of, lookup, name_from}
use Rattle.soqe_signature.specs.Declares.{first_unknown, sorts_named}
use Rattle.soqe_signature.proofs.Declared.{name_of-lookup, of_numbering-push}
use Rattle.soqe_text.specs.NewNames.{IsDeclared}
use Rattle.soqe_text.specs.Naming.{sort_of_found, sort_number, sort_numbers, kind_declared, then_named, named_declared, all_named_declared}

-- a name's number is below the count of its numbering
pub num_below : (ds : List Declaration) (name : List ℕ) (f : Found) → lookup ds name ≡ Some f → f.num < count_of (numbering_of f.kind) ds
num_below ds name f h = by (slice_get (of_numbering (numbering_of f.kind) ds) f.num) refl (name_of-lookup ds name f h)
  where
    by : (r : Option Declaration) → slice_get (of_numbering (numbering_of f.kind) ds) f.num ≡ r → name_from r ≡ Some name → f.num < count_of (numbering_of f.kind) ds
    by None e named = absurd (none-some name named)
    by (Some d) e named = slice_get_within (of_numbering (numbering_of f.kind) ds) f.num d e

-- each sort number is that of a declared sort
pub sort_number_known : (bytes : List ℕ) (ds : List Declaration) (s : Span) → 0 < count_of numbering.Sort ds → sort_number bytes ds s < count_of numbering.Sort ds
sort_number_known bytes ds s obj = by (lookup ds (text_at bytes s)) refl
  where
    by_kind : (k : Kind) (num : ℕ) → num < count_of (numbering_of k) ds → sort_of_found (Some (record { kind = k; num = num })) < count_of numbering.Sort ds
    by_kind kind.Sort num below = below
    by_kind (kind.Fun args result) num below = obj
    by_kind (kind.Pred args) num below = obj
    by_kind (kind.Free sort) num below = obj
    by_kind kind.Rel num below = obj
    by_kind kind.Prop num below = obj
    by_kind kind.VarName num below = obj
    by_kind kind.PredName num below = obj

    by : (found : Option Found) → lookup ds (text_at bytes s) ≡ found → sort_of_found found < count_of numbering.Sort ds
    by None e = obj
    by (Some f) e = by_kind f.kind f.num (num_below ds (text_at bytes s) f e)

below-nat_lt : (a b : ℕ) → a < b → nat_lt a b ≡ true
below-nat_lt a b h = grind (arith, h)

one_known : (n s : ℕ) (sorts : List ℕ) → s < n → first_unknown n sorts ≡ None → first_unknown n (s ∷ sorts) ≡ None
one_known n s sorts h rest = cond-true _ _ _ (below-nat_lt s n h) ∙ rest

numbers_known : (bytes : List ℕ) (ds : List Declaration) (ss : List Span) (more : List ℕ) → 0 < count_of numbering.Sort ds → first_unknown (count_of numbering.Sort ds) more ≡ None
    → first_unknown (count_of numbering.Sort ds) (sort_numbers bytes ds ss ++ more) ≡ None
numbers_known bytes ds [] more obj h = h
numbers_known bytes ds (s ∷ ss) more obj h =
    one_known (count_of numbering.Sort ds) (sort_number bytes ds s) (sort_numbers bytes ds ss ++ more) (sort_number_known bytes ds s obj) (numbers_known bytes ds ss more obj h)

all_known : (bytes : List ℕ) (ds : List Declaration) (ss : List Span) → 0 < count_of numbering.Sort ds → first_unknown (count_of numbering.Sort ds) (sort_numbers bytes ds ss) ≡ None
all_known bytes ds [] obj = refl
all_known bytes ds (s ∷ ss) obj = one_known (count_of numbering.Sort ds) (sort_number bytes ds s) (sort_numbers bytes ds ss) (sort_number_known bytes ds s obj) (all_known bytes ds ss obj)

-- the sorts of what a declaration declares are known
kind_known : (bytes : List ℕ) (ds : List Declaration) (d : syntax.Declared Span) → 0 < count_of numbering.Sort ds
    → first_unknown (count_of numbering.Sort ds) (sorts_named (kind_declared bytes ds d)) ≡ None
kind_known bytes ds (syntax.DeclaredSort s) obj = refl
kind_known bytes ds (syntax.DeclaredFun f ss r) obj =
    numbers_known bytes ds ss (sort_number bytes ds r ∷ []) obj (one_known (count_of numbering.Sort ds) (sort_number bytes ds r) [] (sort_number_known bytes ds r obj) refl)
kind_known bytes ds (syntax.DeclaredPred p ss) obj = all_known bytes ds ss obj
kind_known bytes ds (syntax.DeclaredVar x s) obj = one_known (count_of numbering.Sort ds) (sort_number bytes ds s) [] (sort_number_known bytes ds s obj) refl

pub known_kind : (bytes : List ℕ) (ds : List Declaration) (d : syntax.Declared Span) (k : Kind) → k ≡ kind_declared bytes ds d → 0 < count_of numbering.Sort ds
    → first_unknown (count_of numbering.Sort ds) (sorts_named k) ≡ None
known_kind bytes ds d k is obj = ap (λ k. first_unknown (count_of numbering.Sort ds) (sorts_named k)) is ∙ kind_known bytes ds d obj

-- a sort stays declared
pub obj_stays : (ds new : List Declaration) (name : List ℕ) (k : Kind) (num : ℕ) → IsDeclared ds name k num new → 0 < count_of numbering.Sort ds → 0 < count_of numbering.Sort new
obj_stays ds new name k num h obj =
    let P : List Declaration → Type 0 = λ ds. 0 < count_of numbering.Sort ds in
    subst P (sym h.new_is) (grown ds (record { name = name; kind = k }) obj)
  where
    longer : (a b : List Declaration) → 0 < length a → 0 < length (a ++ b)
    longer [] b h = absurd (omega (arith, h))
    longer (x ∷ a) b h = omega arith

    grown : (ds : List Declaration) (d : Declaration) → 0 < count_of numbering.Sort ds → 0 < count_of numbering.Sort (ds ++ d ∷ [])
    grown ds d h =
        let Q : List Declaration → Type 0 = λ l. 0 < length l in
        subst Q (sym (of_numbering-push ds d numbering.Sort)) (longer (of_numbering numbering.Sort ds) _ h)

-- declarations from a place on, after the one at that place
items_at : (bytes : List ℕ) (ds : List Declaration) (items : List Item) (n : ℕ) (x : Item) → slice_get items n ≡ Some x
    → all_named_declared bytes ds (map declared_view (drop n items))
    ≡ then_named (named_declared bytes ds (declared_view x)) (λ ds. all_named_declared bytes ds (map declared_view (drop (suc n) items)))
items_at bytes ds [] n x h = absurd (none-some x h)
items_at bytes ds (y ∷ items) zero x h = ap (λ y. then_named (named_declared bytes ds (declared_view y)) (λ ds. all_named_declared bytes ds (map declared_view items))) (ap (λ o. unwrap_or o y) h)
items_at bytes ds (y ∷ items) (suc n) x h = items_at bytes ds items n x h

pub items_step : (bytes : List ℕ) (ds new : List Declaration) (items : List Item) (n : ℕ) (x : Item) → slice_get items n ≡ Some x
    → named_declared bytes ds (declared_view x) ≡ Ok new
    → all_named_declared bytes ds (map declared_view (drop n items)) ≡ all_named_declared bytes new (map declared_view (drop (n + 1) items))
items_step bytes ds new items n x h s =
    let e : suc n ≡ n + 1 = omega arith in
    items_at bytes ds items n x h
    ∙ ap (λ o. then_named o (λ ds. all_named_declared bytes ds (map declared_view (drop (suc n) items)))) s
    ∙ ap (λ m. all_named_declared bytes new (map declared_view (drop m items))) e

pub items_refused : (bytes : List ℕ) (ds : List Declaration) (items : List Item) (n : ℕ) (x : Item) (at : ℕ) → slice_get items n ≡ Some x
    → named_declared bytes ds (declared_view x) ≡ Err at → all_named_declared bytes ds (map declared_view (drop n items)) ≡ Err at
items_refused bytes ds items n x at h s =
    items_at bytes ds items n x h ∙ ap (λ o. then_named o (λ ds. all_named_declared bytes ds (map declared_view (drop (suc n) items)))) s
