use Rattle.std.proofs.Common.{ap}
use Rattle.soqe_number.specs.Counts.{counted}
use Rattle.soqe_number.proofs.counts.Counts.new.Goals as goal

pub returns : goal.returns
unfolding counted
returns c = ap counted c.new.ensures
