use Rattle.soqe_ack.proofs.AckedBlocks.{acked-bare}
use Rattle.soqe_ack.proofs.AckedSorts.{form-is-sorted, value-is-sorted}
use Rattle.soqe_ack.proofs.laws.eliminated_cases.Goals as goal

pub returns-clause-sorted : goal.returns-clause-sorted
returns-clause-sorted c = form-is-sorted

pub returns-clause-value : goal.returns-clause-value
returns-clause-value c = value-is-sorted

pub returns-clause-blocks : goal.returns-clause-blocks
returns-clause-blocks c = acked-bare
