use Rattle.soqe_ack.proofs.AckermannCases.{ackermann}
use Rattle.soqe_ack.proofs.AckermannGone.{gone}
use Rattle.soqe_ack.proofs.laws.eliminations.Goals as goal

pub returns-clause-ackermann : goal.returns-clause-ackermann
returns-clause-ackermann c = ackermann

pub returns-clause-gone : goal.returns-clause-gone
returns-clause-gone c = gone
