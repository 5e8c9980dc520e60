-- A formula whose children are simple is made simple at its root alone.
use Rattle.std.proofs.Common.{◌≡◌, ◌≤◌, refl, sym, ◌∙◌, ap, subst, arith}
use Rattle.soqe_form.specs.declared.form.Form.{Form, Not, Not', Imp, Imp', end_of-Form as end, more_of-Form as one}
use Rattle.soqe_form.specs.Boxes.{boxes}
use Rattle.soqe_simp.specs.Weight.{weight}
use Rattle.soqe_simp.specs.Simplified.{on_children, root_simplified, simplify}
use Rattle.soqe_simp.specs.Ready.{Children, IsSimple, IsBelow}
use Rattle.soqe_simp.proofs.Children.{children-lighter, children-map, children-stay, children-changed}
use Rattle.soqe_simp.proofs.Simplifies.{simplify-keeps}
use Rattle.soqe_simp.proofs.Simple.{simplify-root, simplify-simple, simple-stays}

pub simplify-at_root : (f : Form) → Children IsSimple f → simplify f ≡ root_simplified simplify f
simplify-at_root f h =
    simplify-root f ∙ ap (root_simplified simplify) (children-stay simplify f (children-map IsSimple (λ a. simplify a ≡ a) simple-stays f h))

pub children-made_simple : (f : Form) → Children IsSimple (on_children simplify f)
children-made_simple f = children-changed IsSimple simplify f (children-lighter (λ a. IsSimple (simplify a)) f (λ a l. simplify-simple a))

-- the children may be made simple before
pub simplify-children : (f : Form) → simplify (on_children simplify f) ≡ simplify f
simplify-children f = simplify-at_root (on_children simplify f) (children-made_simple f) ∙ sym (simplify-root f)

-- so may A in ~A
pub simplify-not : (a b r : Form) → b ≡ simplify a → r ≡ simplify (Not b) → r ≡ simplify (Not a)
unfolding boxes
simplify-not a b r h k = k ∙ ap (λ b. simplify (Not b)) h ∙ simplify-children (Not a)

-- and in A -> D, where D is simple
pub simplify-imp : (a b d r : Form) → IsSimple d → b ≡ simplify a → r ≡ simplify (Imp b d) → r ≡ simplify (Imp a d)
unfolding boxes
simplify-imp a b d r s h k =
    k ∙ ap (λ b. simplify (Imp b d)) h ∙ ap (λ d. simplify (Imp (simplify a) d)) (sym (simple-stays d s)) ∙ simplify-children (Imp a d)

-- ---- f is ~A or A -> D, and c is A made simple

pub not-lighter : (f a c : Form) → f ≡ Not a → c ≡ simplify a → weight (Not c) ≤ weight f
unfolding boxes
not-lighter f a c form made = omega (arith, ap weight form, ap weight made, (simplify-keeps a).weight)

pub not-ready : (a c : Form) → c ≡ simplify a → Children IsSimple (Not c)
unfolding boxes
not-ready a c made = subst IsSimple (sym made) (simplify-simple a)

pub not-simplified : (f a c r : Form) → f ≡ Not a → c ≡ simplify a → r ≡ simplify (Not c) → r ≡ simplify f
not-simplified f a c r form made e = simplify-not a c r made e ∙ ap simplify (sym form)

pub below-imp : (f a d : Form) → IsBelow f → f ≡ Imp a d → Children IsSimple a × IsSimple d
unfolding boxes
below-imp f a d below form = subst IsBelow form below

pub imp-lighter : (f a d c : Form) → f ≡ Imp a d → c ≡ simplify a → weight (Imp c d) ≤ weight f
unfolding boxes
imp-lighter f a d c form made = omega (arith, ap weight form, ap weight made, (simplify-keeps a).weight)

pub imp-ready : (f a d c : Form) → IsBelow f → f ≡ Imp a d → c ≡ simplify a → Children IsSimple (Imp c d)
unfolding boxes
imp-ready f a d c below form made = (subst IsSimple (sym made) (simplify-simple a), (below-imp f a d below form).1)

pub imp-simplified : (f a d c r : Form) → IsBelow f → f ≡ Imp a d → c ≡ simplify a → r ≡ simplify (Imp c d) → r ≡ simplify f
imp-simplified f a d c r below form made e = simplify-imp a c d r (below-imp f a d below form).1 made e ∙ ap simplify (sym form)

-- it is one of the two
pub below-default : (f : Form) → IsBelow f → ((a : Form) → f ≡ Not a → ⊥) → ((a d : Form) → f ≡ Imp a d → ⊥) → ⊥
unfolding boxes
below-default (Not' _ (one f end)) below n m = n f refl
below-default (Imp' _ (one f end) _ (one g end)) below n m = m f g refl
below-default _ below n m = below
