use Rattle.std.proofs.Common.{◌≡◌, length}
use Rattle.soqe_form.specs.Quantifiers.{quantify}
use Rattle.soqe_norm.proofs.prenex.quantify.Given as goal

abbrev pub invariant-loop-quantifier : goal.invariant-loop-quantifier
invariant-loop-quantifier l = quantify l.prefix.items l.made ≡ quantify l.fn.prefix.items l.fn.form

abbrev pub decreases-loop-quantifier : goal.decreases-loop-quantifier
decreases-loop-quantifier l = length l.prefix.items
