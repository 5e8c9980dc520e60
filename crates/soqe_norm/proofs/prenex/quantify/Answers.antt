use Rattle.std.proofs.Common.{◌∙◌, ap, sym}
use Rattle.soqe_form.specs.Quantifiers.{quantify}
use Rattle.soqe_norm.proofs.Quantifieds.{quantify-push}
use Rattle.soqe_norm.proofs.prenex.quantify.Goals as goal

pub loop-quantifier-preserved : goal.loop-quantifier-preserved
loop-quantifier-preserved c =
    ap (quantify c.pop.new.self.items) c.in_ok-made.ensures ∙ sym (quantify-push c.pop.new.self.items c.in-Some.quantifier c.loop-quantifier.made)
    ∙ ap (λ qs. quantify qs c.loop-quantifier.made) (sym c.in-Some.ensures.items) ∙ c.loop-quantifier.invariant
