use Rattle.soqe_ack.proofs.GuardOf.{unique, decided}
use Rattle.soqe_ack.proofs.GuardParts.{parts-lack}
use Rattle.soqe_ack.proofs.GuardTruth.{says-parts}
use Rattle.soqe_ack.proofs.laws.guards.Goals as goal

pub returns-clause-says : goal.returns-clause-says
returns-clause-says c = says-parts

pub returns-clause-lacks : goal.returns-clause-lacks
returns-clause-lacks c = parts-lack

pub returns-clause-unique : goal.returns-clause-unique
returns-clause-unique c = λ s q xs f c r d t. unique s q xs

pub returns-clause-decided : goal.returns-clause-decided
returns-clause-decided c = decided
