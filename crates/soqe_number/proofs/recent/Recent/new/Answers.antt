use Rattle.soqe_number.proofs.Counted.{counted-nothing}
use Rattle.soqe_number.proofs.recent.Recent.new.Goals as goal

pub returns : goal.returns
returns c = counted-nothing 0 c.new.result c.new.ensures
