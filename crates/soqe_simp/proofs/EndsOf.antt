-- Behind binders `all y.` nothing is found where no ~C, or no C -> D, stands there.
use Rattle.std.proofs.Common.{◌≡◌, ℕ, false, List, ◌∷◌, None, refl, sym, ap}
use Rattle.std.specs.Option.{option_map}
use Rattle.soqe_term.specs.declared.term.Var.{Var}
use Rattle.soqe_form.specs.declared.form.Form.{Form, All, True, False, Equal, Atom, Not', And', Or', Imp', Iff', All', Ex', All2', Ex2', end_of-Form as end, more_of-Form as one}
use Rattle.soqe_form.specs.Boxes.{boxes}
use Rattle.soqe_form.proofs.SameCases.{never}
use Rattle.soqe_simp.specs.Conjuncts.{around, below_alls, solved_not, solved_imp}
use Rattle.soqe_simp.specs.Ends.{ends_in_negation, ends_in_implication}

pub none_in_negation : (x : Var) (ys : List ℕ) (f : Form) → ends_in_negation f ≡ false → None ≡ below_alls (solved_not x) ys f
unfolding boxes
none_in_negation x ys True h = refl
none_in_negation x ys False h = refl
none_in_negation x ys (Equal s t) h = refl
none_in_negation x ys (Atom p ts) h = refl
none_in_negation x ys (Not' _ (one f end)) h = never (sym h)
none_in_negation x ys (And' _ (one f end) _ (one g end)) h = refl
none_in_negation x ys (Or' _ (one f end) _ (one g end)) h = refl
none_in_negation x ys (Imp' _ (one f end) _ (one g end)) h = refl
none_in_negation x ys (Iff' _ (one f end) _ (one g end)) h = refl
none_in_negation x ys (All' y _ (one f end)) h = ap (option_map (around (λ r. All y r))) (none_in_negation x (y.num ∷ ys) f h)
none_in_negation x ys (Ex' y _ (one f end)) h = refl
none_in_negation x ys (All2' p _ (one f end)) h = refl
none_in_negation x ys (Ex2' p _ (one f end)) h = refl

pub none_in_implication : (x : Var) (ys : List ℕ) (f : Form) → ends_in_implication f ≡ false → None ≡ below_alls (solved_imp x) ys f
unfolding boxes
none_in_implication x ys True h = refl
none_in_implication x ys False h = refl
none_in_implication x ys (Equal s t) h = refl
none_in_implication x ys (Atom p ts) h = refl
none_in_implication x ys (Not' _ (one f end)) h = refl
none_in_implication x ys (And' _ (one f end) _ (one g end)) h = refl
none_in_implication x ys (Or' _ (one f end) _ (one g end)) h = refl
none_in_implication x ys (Imp' _ (one f end) _ (one g end)) h = never (sym h)
none_in_implication x ys (Iff' _ (one f end) _ (one g end)) h = refl
none_in_implication x ys (All' y _ (one f end)) h = ap (option_map (around (λ r. All y r))) (none_in_implication x (y.num ∷ ys) f h)
none_in_implication x ys (Ex' y _ (one f end)) h = refl
none_in_implication x ys (All2' p _ (one f end)) h = refl
none_in_implication x ys (Ex2' p _ (one f end)) h = refl
