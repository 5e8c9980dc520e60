use Rattle.soqe_ack.proofs.AckedDecided.{acked-or-stuck, not-both, acked-one}
use Rattle.soqe_ack.proofs.laws.tries.Goals as goal

pub returns-clause-decided : goal.returns-clause-decided
returns-clause-decided c = acked-or-stuck

pub returns-clause-exclusive : goal.returns-clause-exclusive
returns-clause-exclusive c = not-both

pub returns-clause-unique : goal.returns-clause-unique
returns-clause-unique c = acked-one
