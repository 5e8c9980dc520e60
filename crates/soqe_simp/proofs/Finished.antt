-- A step at the root of a formula with simple children, finished, makes the formula simple.
use Rattle.std.proofs.Common.{◌≡◌, ℕ, ◌+◌, ◌*◌, ◌≤◌, Option, Some, None, refl, ap, subst, ◌∙◌, sym, arith}
use Rattle.soqe_form.specs.declared.form.Form.{Form}
use Rattle.soqe_simp.specs.declared.rewriting.Rewritten.{Rewritten}
use Rattle.soqe_simp.specs.declared.stepping.Stepped.{Stepped}
use Rattle.soqe_simp.specs.declared.stepping.Stepped.TheVariants.{Settled, Made}
use Rattle.soqe_simp.specs.Weight.{weight}
use Rattle.soqe_simp.specs.Step.{step}
use Rattle.soqe_simp.specs.Stepped.{stepped_by, stepped}
use Rattle.soqe_simp.specs.Simplified.{then_on, simplify}
use Rattle.soqe_simp.specs.Ready.{Children, IsSimple}
use Rattle.soqe_simp.specs.Finished.{finished, IsReady}
use Rattle.soqe_simp.proofs.Simplifies.{at_option}
use Rattle.soqe_simp.proofs.Simple.{step-lighter}
use Rattle.soqe_simp.proofs.Settled.{simplify-at_root}
use Rattle.soqe_simp.proofs.Readies.{step-ready}

-- what is left to be done of a step: nothing where no row applied
abbrev pub load : Stepped → ℕ
load (Settled f) = 0
load (Made r) = 8 * weight r.form + 8

settled-by : (o : Option Rewritten) (f g : Form) → Settled g ≡ stepped_by o f → g ≡ f
settled-by None f g h = cc
settled-by (Some r) f g h = cc

-- no row applied, and the formula is as it was
pub settled-same : (f g : Form) → Settled g ≡ stepped f → g ≡ f
settled-same f g h = settled-by (step f) f g h

finished-by : (o : Option Rewritten) (f : Form) → finished (stepped_by o f) ≡ then_on simplify o f
finished-by None f = refl
finished-by (Some r) f = refl

-- ---- s is the step at the root of f

-- the step, finished, makes f simple
pub finished-simple : (f : Form) (s : Stepped) (r : Form) → Children IsSimple f → s ≡ stepped f → r ≡ finished s → r ≡ simplify f
finished-simple f s r h e k = k ∙ ap finished e ∙ finished-by (step f) f ∙ sym (simplify-at_root f h)

-- what a row gave is ready
pub stepped-ready : (f : Form) (s : Stepped) → Children IsSimple f → s ≡ stepped f → IsReady s
stepped-ready f s h e = subst IsReady (sym e) (at_option (λ o. IsReady (stepped_by o f)) (step f) (λ e. tt) (λ r e. step-ready f r e h))

-- and lighter than f
pub stepped-lighter : (f : Form) (s : Stepped) → s ≡ stepped f → load s ≤ 8 * weight f
stepped-lighter f s e = subst (λ s. load s ≤ 8 * weight f) (sym e)
    (at_option (λ o. load (stepped_by o f) ≤ 8 * weight f) (step f) (λ e. omega (arith)) (λ r e. omega (arith, step-lighter f r e)))
