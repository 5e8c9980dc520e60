-- What a test for one node answers at any other node.
use Rattle.std.proofs.Common.{◌≡◌, Bool, false, refl}
use Rattle.soqe_term.specs.declared.term.Var.{Var}
use Rattle.soqe_term.specs.declared.term.Term.{Term}
use Rattle.soqe_term.specs.declared.term.Terms.{Terms}
use Rattle.soqe_form.specs.declared.form.Pred.{Pred}
use Rattle.soqe_form.specs.declared.form.PVar.{PVar}
use Rattle.soqe_form.specs.declared.form.Form.{Form, True, False, Equal, Atom, Not, Not', And, And', Or, Or', Imp, Imp', Iff, Iff', All, All', Ex, Ex', All2, All2', Ex2, Ex2', end_of-Form as end, more_of-Form as one}
use Rattle.soqe_form.specs.Boxes.{boxes}
use Rattle.soqe_form.specs.Same.{is_true, is_false, is_equal, is_atom, is_not, is_and, is_or, is_imp, is_iff, is_all, is_ex, is_all2, is_ex2}

pub other-true : (f : Form) → (f ≡ True → ⊥) → false ≡ is_true f
unfolding boxes
other-true True other = absurd (other refl)
other-true f other = refl

pub other-false : (f : Form) → (f ≡ False → ⊥) → false ≡ is_false f
unfolding boxes
other-false False other = absurd (other refl)
other-false f other = refl

pub other-equal : (a b : Term → Bool) (f : Form) → ((s t : Term) → f ≡ Equal s t → ⊥) → false ≡ is_equal a b f
unfolding boxes
other-equal a b (Equal s t) other = absurd (other s t refl)
other-equal a b f other = refl

pub other-atom : (a : Pred → Bool) (b : Terms → Bool) (f : Form) → ((p : Pred) (ts : Terms) → f ≡ Atom p ts → ⊥) → false ≡ is_atom a b f
unfolding boxes
other-atom a b (Atom p ts) other = absurd (other p ts refl)
other-atom a b f other = refl

pub other-not : (a : Form → Bool) (f : Form) → ((g : Form) → f ≡ Not g → ⊥) → false ≡ is_not a f
unfolding boxes
other-not a (Not' _ (one g end)) other = absurd (other g refl)
other-not a f other = refl

pub other-and : (a b : Form → Bool) (f : Form) → ((g h : Form) → f ≡ And g h → ⊥) → false ≡ is_and a b f
unfolding boxes
other-and a b (And' _ (one g end) _ (one h end)) other = absurd (other g h refl)
other-and a b f other = refl

pub other-or : (a b : Form → Bool) (f : Form) → ((g h : Form) → f ≡ Or g h → ⊥) → false ≡ is_or a b f
unfolding boxes
other-or a b (Or' _ (one g end) _ (one h end)) other = absurd (other g h refl)
other-or a b f other = refl

pub other-imp : (a b : Form → Bool) (f : Form) → ((g h : Form) → f ≡ Imp g h → ⊥) → false ≡ is_imp a b f
unfolding boxes
other-imp a b (Imp' _ (one g end) _ (one h end)) other = absurd (other g h refl)
other-imp a b f other = refl

pub other-iff : (a b : Form → Bool) (f : Form) → ((g h : Form) → f ≡ Iff g h → ⊥) → false ≡ is_iff a b f
unfolding boxes
other-iff a b (Iff' _ (one g end) _ (one h end)) other = absurd (other g h refl)
other-iff a b f other = refl

pub other-all : (a : Var → Form → Bool) (f : Form) → ((x : Var) (g : Form) → f ≡ All x g → ⊥) → false ≡ is_all a f
unfolding boxes
other-all a (All' x _ (one g end)) other = absurd (other x g refl)
other-all a f other = refl

pub other-ex : (a : Var → Form → Bool) (f : Form) → ((x : Var) (g : Form) → f ≡ Ex x g → ⊥) → false ≡ is_ex a f
unfolding boxes
other-ex a (Ex' x _ (one g end)) other = absurd (other x g refl)
other-ex a f other = refl

pub other-all2 : (a : PVar → Form → Bool) (f : Form) → ((p : PVar) (g : Form) → f ≡ All2 p g → ⊥) → false ≡ is_all2 a f
unfolding boxes
other-all2 a (All2' p _ (one g end)) other = absurd (other p g refl)
other-all2 a f other = refl

pub other-ex2 : (a : PVar → Form → Bool) (f : Form) → ((p : PVar) (g : Form) → f ≡ Ex2 p g → ⊥) → false ≡ is_ex2 a f
unfolding boxes
other-ex2 a (Ex2' p _ (one g end)) other = absurd (other p g refl)
other-ex2 a f other = refl

pub ruleset others = (other-true, other-false, other-equal, other-atom, other-not, other-and, other-or, other-imp, other-iff, other-all, other-ex, other-all2, other-ex2)
