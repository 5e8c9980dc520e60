use Rattle.std.proofs.Common.{ap}
use Rattle.soqe_number.specs.Marks.{marked, as_marks}
use Rattle.soqe_number.proofs.marks.Marks.new.Goals as goal

pub returns : goal.returns
unfolding marked
returns c = ap (λ es. marked (as_marks es)) c.new.ensures
