use Rattle.std.proofs.Common.{length}
use Rattle.soqe_ack.proofs.equating.+further_equations.Given as goal

abbrev pub decreases-further_equations : goal.decreases-further_equations
decreases-further_equations l = length l.params.now
