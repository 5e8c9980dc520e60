-- A negation is written with `~`, unless it is that of an equation.
use Rattle.std.proofs.Common.{◌≡◌, ◌++◌, true, false, List, codes, refl, ap, sym}
use Rattle.soqe_syntax.specs.Grammar.{Tree}
use Rattle.soqe_syntax.specs.Grammar as tree
use Rattle.soqe_term.specs.declared.term.Term.{Term}
use Rattle.soqe_signature.specs.Declarations.{Declaration}
use Rattle.soqe_form.specs.declared.form.Form.{Form, True, False, Equal, Atom, Not', And', Or', Imp', Iff', All', Ex', All2', Ex2', end_of-Form as end, more_of-Form as one}
use Rattle.soqe_show.specs.Printed.{Text, tree_text}
use Rattle.soqe_show.specs.Dress.{dress, guard, negated}

-- no negation is the equation that another one is written as
negated-negated : (t : Tree Text) → negated (negated t) ≡ tree.Not (guard 4 (negated t))
negated-negated (tree.Constant b) = refl
negated-negated (tree.Atom t) = refl
negated-negated (tree.Equation true sign l r) = refl
negated-negated (tree.Equation false sign l r) = refl
negated-negated (tree.Not t) = refl
negated-negated (tree.Bind q x s t) = refl
negated-negated (tree.Bind2 q x ss t) = refl
negated-negated (tree.Binary op l r) = refl
negated-negated (tree.Paren t) = refl

-- the text of a negation whose body is no equation
pub negated_other : (ds : List Declaration) (f : Form) → ((s t : Term) → f ≡ Equal s t → ⊥)
    → codes "~" ++ tree_text (guard 4 (dress ds f)) ≡ tree_text (negated (dress ds f))
negated_other ds True h = refl
negated_other ds False h = refl
negated_other ds (Equal s t) h = absurd (h s t refl)
negated_other ds (Atom p ts) h = refl
negated_other ds (Not' _ (one f end)) h = ap tree_text (sym (negated-negated (dress ds f)))
negated_other ds (And' _ (one f end) _ (one g end)) h = refl
negated_other ds (Or' _ (one f end) _ (one g end)) h = refl
negated_other ds (Imp' _ (one f end) _ (one g end)) h = refl
negated_other ds (Iff' _ (one f end) _ (one g end)) h = refl
negated_other ds (All' x _ (one f end)) h = refl
negated_other ds (Ex' x _ (one f end)) h = refl
negated_other ds (All2' p _ (one f end)) h = refl
negated_other ds (Ex2' p _ (one f end)) h = refl
