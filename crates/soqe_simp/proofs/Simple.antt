-- A formula that was made simple is simple, and a simple one stays as it is. The depth that bounds the definition does not
-- matter, once it is the weight of the formula.
use Rattle.std.proofs.Common.{◌≡◌, ℕ, zero, suc, ◌<◌, ◌≤◌, true, not, Some, None, refl, ◌∙◌, ap, arith}
use Rattle.std.specs.Prelude.{is_some}
use Rattle.soqe_form.specs.declared.form.Form.{Form}
use Rattle.soqe_form.proofs.SameCases.{never}
use Rattle.soqe_simp.specs.declared.rewriting.Rewritten.{Rewritten}
use Rattle.soqe_simp.specs.Weight.{weight}
use Rattle.soqe_simp.specs.Normal.{is_settled, is_simple}
use Rattle.soqe_simp.specs.Step.{step}
use Rattle.soqe_simp.specs.Simplified.{on_children, then_on, root_simplified, simplified, simplify}
use Rattle.soqe_simp.specs.Simplifies.{Simplifies, SimplifyIsSimple, SimpleStays, BoundDoesNotMatter}
use Rattle.soqe_simp.proofs.Kept.{weight-positive}
use Rattle.soqe_simp.specs.Ready.{Children}
use Rattle.soqe_simp.proofs.Children.{children-lighter, children-map, children-equal, children-stay, children-changed, children-simple, root-settled, simple-from}
use Rattle.soqe_simp.proofs.Simplifies.{at_option, simplifies-children, simplified-keeps, simplify-keeps}
use Rattle.soqe_simp.proofs.Steps.{step-keeps}

-- the children changed weigh no more
children-weigh : (k : ℕ) (f : Form) → weight (on_children (simplified k) f) ≤ weight f
children-weigh k f = (simplifies-children (simplified k) f (children-lighter (λ a. Simplifies a (simplified k a)) f (λ a l. simplified-keeps k a))).weight

pub children-simplified-weigh : (f : Form) → weight (on_children simplify f) ≤ weight f
children-simplified-weigh f = (simplifies-children simplify f (children-lighter (λ a. Simplifies a (simplify a)) f (λ a l. simplify-keeps a))).weight

-- what a row gives weighs less
pub step-lighter : (f : Form) (r : Rewritten) → step f ≡ Some r → weight r.form < weight f
step-lighter f r e = (step-keeps f r e).shrinks.weight

pub simplified-simple : (k : ℕ) (f : Form) → weight f ≤ k → is_simple (simplified k f) ≡ true
simplified-simple zero f h = absurd (omega (arith, h, weight-positive f))
simplified-simple (suc k) f h =
    let g : Form = on_children (simplified k) f in
    let simple : Children (λ a. is_simple a ≡ true) g = children-changed (λ a. is_simple a ≡ true) (simplified k) f
    (children-lighter (λ a. is_simple (simplified k a) ≡ true) f (λ a l. simplified-simple k a (omega (arith, l, h)))) in
    at_option (λ o. is_simple (then_on (simplified k) o g) ≡ true) (step g)
    (λ e. simple-from g (ap (λ o. not (is_some o)) e) simple)
    (λ r e. simplified-simple k r.form (omega (arith, step-lighter g r e, children-weigh k f, h)))

-- two depths give one formula at the root, where they do for what a row gives
root-equal : (s t : Form → Form) (f : Form) → ((a : Form) → weight a < weight f → s a ≡ t a) → root_simplified s f ≡ root_simplified t f
root-equal s t f h = at_option (λ o. then_on s o f ≡ then_on t o f) (step f) (λ e. refl) (λ r e. h r.form (step-lighter f r e))

pub simplified-enough : (k m : ℕ) (f : Form) → weight f ≤ k → weight f ≤ m → simplified k f ≡ simplified m f
simplified-enough zero m f h l = absurd (omega (arith, h, weight-positive f))
simplified-enough (suc k) zero f h l = absurd (omega (arith, l, weight-positive f))
simplified-enough (suc k) (suc m) f h l =
    root-equal (simplified k) (simplified m) (on_children (simplified k) f)
    (λ a less. simplified-enough k m a (omega (arith, less, children-weigh k f, h)) (omega (arith, less, children-weigh k f, l)))
    ∙ ap (root_simplified (simplified m)) (children-equal (simplified k) (simplified m) f
    (children-lighter (λ a. simplified k a ≡ simplified m a) f (λ a less. simplified-enough k m a (omega (arith, less, h)) (omega (arith, less, l)))))

-- the formula made simple is what the first row gives at the root, made simple, once the children are simple
pub simplify-root : (f : Form) → simplify f ≡ root_simplified simplify (on_children simplify f)
simplify-root f =
    simplified-enough (weight f) (suc (weight f)) f (omega (arith)) (omega (arith))
    ∙ root-equal (simplified (weight f)) simplify (on_children (simplified (weight f)) f)
    (λ a less. simplified-enough (weight f) (weight a) a (omega (arith, less, children-weigh (weight f) f)) (omega (arith)))
    ∙ ap (root_simplified simplify) (children-equal (simplified (weight f)) simplify f
    (children-lighter (λ a. simplified (weight f) a ≡ simplify a) f (λ a less. simplified-enough (weight f) (weight a) a (omega (arith, less)) (omega (arith)))))

pub settled-none : (f : Form) → is_settled f ≡ true → step f ≡ None
settled-none f h = at_option (λ o. not (is_some o) ≡ true → o ≡ None) (step f) (λ e k. refl) (λ r e k. never k) h

pub simplified-stays : (k : ℕ) (f : Form) → is_simple f ≡ true → simplified k f ≡ f
simplified-stays zero f h = refl
simplified-stays (suc k) f h =
    let stay : on_children (simplified k) f ≡ f = children-stay (simplified k) f
    (children-map (λ a. is_simple a ≡ true) (λ a. simplified k a ≡ a) (λ a p. simplified-stays k a p) f (children-simple f h)) in
    ap (root_simplified (simplified k)) stay ∙ ap (λ o. then_on (simplified k) o f) (settled-none f (root-settled f h))

pub simplify-simple : SimplifyIsSimple
simplify-simple f = simplified-simple (weight f) f (omega (arith))

pub simple-stays : SimpleStays
simple-stays f h = simplified-stays (weight f) f h

pub any-bound : BoundDoesNotMatter
any-bound k f h = simplified-enough k (weight f) f h (omega (arith))
