use Rattle.std.proofs.Common.{length}
use Rattle.soqe_norm.proofs.folding.+exists_in.Given as goal

abbrev pub decreases-exists_in : goal.decreases-exists_in
decreases-exists_in l = length l.vars.now
