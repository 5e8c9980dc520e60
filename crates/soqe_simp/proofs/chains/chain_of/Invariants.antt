use Rattle.std.proofs.Common.{◌≡◌, ◌≤◌}
use Rattle.soqe_form.specs.Quantifiers.{quantify}
use Rattle.soqe_simp.specs.Weight.{weight}
use Rattle.soqe_simp.proofs.chains.chain_of.Given as goal

abbrev pub invariant-loop-body : goal.invariant-loop-body
invariant-loop-body l = (quantify l.chain.items l.body ≡ quantify l.fn.chain.items l.fn.form) × (weight l.body ≤ weight l.fn.form)

abbrev pub decreases-loop-body : goal.decreases-loop-body
decreases-loop-body l = weight l.body
