use Rattle.soqe_number.proofs.Tallied.{right-from_empty}
use Rattle.soqe_number.proofs.tally.Tally.counting.Goals as goal

pub returns : goal.returns
returns c = right-from_empty c.args.nums.now c.new-tally.result c.add_all.new.self c.new-tally.ensures c.in_ok-add_all.ensures
