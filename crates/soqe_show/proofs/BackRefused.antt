-- In a formula by itself all names of a tree of texts are known; a tree over places with these texts has no refused name.
use Rattle.std.proofs.Common.{◌≡◌, ℕ, true, ◌&&◌, List, ◌∷◌, Option, Some, None, refl, ◌∙◌, ap, sym, true≢false}
use Rattle.std.specs.List.{list_all}
use Rattle.std.specs.Option.{option_or}
use Rattle.soqe_syntax.specs.declared.piece.Span.{Span}
use Rattle.soqe_syntax.specs.Grammar.{Tree, Constant, Atom, Equation, Not, Bind, Bind2, Binary, Paren}
use Rattle.soqe_signature.specs.declared.kinds.Kind.{Kind}
use Rattle.soqe_signature.specs.declared.kinds.Kind.TheVariants as kind
use Rattle.soqe_signature.specs.Declarations.{Found}
use Rattle.soqe_text.specs.Naming.{unknown_in_by, unknown_of_by, unknown_sort_by, variable_place, predicate_place}
use Rattle.soqe_text.specs.SpelledForm.{refused_binder, refused}
use Rattle.soqe_show.specs.Printed.{Text}
use Rattle.soqe_show.specs.Placed.{texts}
use Rattle.soqe_show.proofs.BackKnown.{is_known_by, known_in_by, sort_known_by, from_none, known_term, known_sides, known_names, known_sort}
use Rattle.soqe_show.proofs.BackUses.{both_none}
use Rattle.soqe_show.proofs.BackFound.{is_variable}

-- A name stands for the variable with this number, declared or bound.
pub record IsVariable (look : List ℕ → Option Found) (x : Text) (n : ℕ) : Type 0 where
  pub what : Kind
  pub variable : is_variable what ≡ true
  pub found : look x ≡ Some (record { kind = what; num = n })

-- All names of a tree are known, and none joins them.
abbrev pub AllKnown : (List ℕ → Option Found) → List ℕ → List ℕ → Tree Text → Type 0
AllKnown look vs ps (Constant b) = Unit {0}
AllKnown look vs ps (Atom t) = known_in_by look vs ps t ≡ true
AllKnown look vs ps (Equation b sign l r) = (known_in_by look vs ps l && known_in_by look vs ps r) ≡ true
AllKnown look vs ps (Not a) = AllKnown look vs ps a
AllKnown look vs ps (Bind q x s a) = (n : ℕ) × IsVariable look x n × (sort_known_by look vs ps s ≡ true) × AllKnown look (n ∷ vs) ps a
AllKnown look vs ps (Bind2 q p ss a) = (n : ℕ) × (look p ≡ Some (record { kind = kind.PredName; num = n })) × (list_all (is_known_by look vs ps) ss ≡ true) × AllKnown look vs (n ∷ ps) a
AllKnown look vs ps (Binary op l r) = AllKnown look vs ps l × AllKnown look vs ps r
AllKnown look vs ps (Paren a) = AllKnown look vs ps a

-- a variable keeps its number at its binder
variable_kept : (n at : ℕ) (behind : ℕ → Option ℕ) (c : Kind) → is_variable c ≡ true → refused_binder (variable_place (Some (record { kind = c; num = n }))) at behind ≡ behind n
variable_kept n at behind kind.VarName h = refl
variable_kept n at behind (kind.Free s) h = refl
variable_kept n at behind kind.Sort h = absurd (true≢false (sym h))
variable_kept n at behind (kind.Fun args result) h = absurd (true≢false (sym h))
variable_kept n at behind (kind.Pred args) h = absurd (true≢false (sym h))
variable_kept n at behind kind.Rel h = absurd (true≢false (sym h))
variable_kept n at behind kind.Prop h = absurd (true≢false (sym h))
variable_kept n at behind kind.PredName h = absurd (true≢false (sym h))

pub texts_known : (bytes : List ℕ) (look : List ℕ → Option Found) (vs ps : List ℕ) (t : Tree Span) → AllKnown look vs ps (texts bytes t) → refused bytes look vs ps t ≡ None
texts_known bytes look vs ps (Constant b) h = refl
texts_known bytes look vs ps (Atom t) h = from_none (unknown_in_by bytes look vs ps t) (known_term bytes look vs ps t ∙ h)
texts_known bytes look vs ps (Equation b at l r) h =
    from_none (option_or (unknown_in_by bytes look vs ps l) (unknown_in_by bytes look vs ps r)) (known_sides bytes look vs ps l r ∙ h)
texts_known bytes look vs ps (Not a) h = texts_known bytes look vs ps a h
texts_known bytes look vs ps (Bind q x s a) h =
    let behind : ℕ → Option ℕ = λ n. option_or (unknown_sort_by bytes look vs ps s) (refused bytes look (n ∷ vs) ps a) in
    ap (λ o. refused_binder (variable_place o) x.start behind) h.1.found ∙ variable_kept h.0 x.start behind h.1.what h.1.variable
    ∙ both_none (unknown_sort_by bytes look vs ps s) (refused bytes look (h.0 ∷ vs) ps a)
    (from_none (unknown_sort_by bytes look vs ps s) (known_sort bytes look vs ps s ∙ h.2)) (texts_known bytes look (h.0 ∷ vs) ps a h.3)
texts_known bytes look vs ps (Bind2 q p ss a) h =
    ap (λ o. refused_binder (predicate_place o) p.start (λ n. option_or (unknown_of_by bytes look vs ps ss) (refused bytes look vs (n ∷ ps) a))) h.1
    ∙ both_none (unknown_of_by bytes look vs ps ss) (refused bytes look vs (h.0 ∷ ps) a)
    (from_none (unknown_of_by bytes look vs ps ss) (known_names bytes look vs ps ss ∙ h.2)) (texts_known bytes look vs (h.0 ∷ ps) a h.3)
texts_known bytes look vs ps (Binary op l r) h = both_none (refused bytes look vs ps l) (refused bytes look vs ps r) (texts_known bytes look vs ps l h.0) (texts_known bytes look vs ps r h.1)
texts_known bytes look vs ps (Paren a) h = texts_known bytes look vs ps a h
