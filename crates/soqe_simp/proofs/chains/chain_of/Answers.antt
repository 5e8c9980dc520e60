use Rattle.std.proofs.Common.{◌∙◌, ap, sym, arith}
use Rattle.soqe_form.specs.Quantifiers.{quantify}
use Rattle.soqe_simp.specs.Weight.{weight}
use Rattle.soqe_simp.proofs.Quantified.{quantify-push, weight-quantified}
use Rattle.soqe_simp.proofs.chains.chain_of.Goals as goal

pub loop-body-preserved : goal.loop-body-preserved
loop-body-preserved c = (
  ap (λ qs. quantify qs c.open-outer.result.body) c.in_ok-push.ensures.items
      ∙ quantify-push c.loop-body.chain.items c.open-outer.result.quantifier c.open-outer.result.body
      ∙ ap (quantify c.loop-body.chain.items) (sym c.open-outer.ensures) ∙ c.loop-body.invariant.0,
  omega (arith, c.loop-body.invariant.1, ap weight c.open-outer.ensures, weight-quantified c.open-outer.result.quantifier c.open-outer.result.body),
)
