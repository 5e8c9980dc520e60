use Rattle.std.proofs.Common.{ap}
use Rattle.soqe_term.specs.Renumber.{renames}
use Rattle.soqe_term.proofs.renaming.Renaming.new.Goals as goal

pub returns : goal.returns
unfolding renames
returns c = ap renames c.new.ensures
