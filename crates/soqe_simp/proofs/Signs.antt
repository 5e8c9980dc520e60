-- What it says of a formula that the sign at its root is ~ or ->, or is not.
use Rattle.std.proofs.Common.{◌≡◌, true, false, Option, None, refl, sym}
use Rattle.soqe_form.specs.declared.form.Form.{Form, Not, Not', Imp, Imp', end_of-Form as end, more_of-Form as one}
use Rattle.soqe_form.specs.Boxes.{boxes}
use Rattle.soqe_form.proofs.SameCases.{never}
use Rattle.soqe_simp.specs.Shapes.{on_not, on_imp}
use Rattle.soqe_simp.specs.Stepped.{is_negation, is_implication}

pub negation-default : (f : Form) → is_negation f ≡ true → ((a : Form) → f ≡ Not a → ⊥) → ⊥
unfolding boxes
negation-default (Not' _ (one f end)) h n = n f refl
negation-default f h n = never h

pub implication-default : (f : Form) → is_implication f ≡ true → ((a b : Form) → f ≡ Imp a b → ⊥) → ⊥
unfolding boxes
implication-default (Imp' _ (one f end) _ (one g end)) h n = n f g refl
implication-default f h n = never h

-- nothing is done with the parts of a formula that has another sign
pub no_negation : {A : Type 0} (k : Form → Option A) (f : Form) → is_negation f ≡ false → on_not k f ≡ None
unfolding boxes
no_negation k (Not' _ (one f end)) h = never (sym h)
no_negation k f h = refl

pub no_implication : {A : Type 0} (k : Form → Form → Option A) (f : Form) → is_implication f ≡ false → on_imp k f ≡ None
unfolding boxes
no_implication k (Imp' _ (one f end) _ (one g end)) h = never (sym h)
no_implication k f h = refl
