use Rattle.std.proofs.Common.{◌++◌}
use Rattle.soqe_number.proofs.small_map.SmallMap.new.Goals as goal

pub returns : goal.returns
returns c = λ i. c.new.ensures i ++ c.new-2.ensures.empty i
