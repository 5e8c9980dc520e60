use Rattle.std.proofs.Common.{ap}
use Rattle.soqe_subst.specs.NewVars.{new_var}
use Rattle.soqe_subst.proofs.new_vars.NewVars.new.Goals as goal

pub returns : goal.returns
unfolding new_var
returns c = ap new_var c.new.ensures.empty
