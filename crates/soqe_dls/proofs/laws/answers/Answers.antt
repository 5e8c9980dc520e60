use Rattle.soqe_dls.proofs.RunBlocks.{answer-bare}
use Rattle.soqe_dls.proofs.RunLost.{names-first}
use Rattle.soqe_dls.proofs.RunTruth.{ends-true}
use Rattle.soqe_dls.proofs.RunUnique.{one-answer}
use Rattle.soqe_dls.proofs.laws.answers.Goals as goal

pub returns-clause-truth : goal.returns-clause-truth
returns-clause-truth c = ends-true

pub returns-clause-blocks : goal.returns-clause-blocks
returns-clause-blocks c = answer-bare

pub returns-clause-one : goal.returns-clause-one
returns-clause-one c = one-answer

pub returns-clause-exactly : goal.returns-clause-exactly
returns-clause-exactly c = names-first
