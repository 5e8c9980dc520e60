use Rattle.soqe_text.proofs.Spelling as spelling
use Rattle.soqe_text.proofs.laws.one_spelled.Goals as goal

pub returns-clause-one : goal.returns-clause-one
returns-clause-one c = spelling.one_spelled

pub returns-clause-alone : goal.returns-clause-alone
returns-clause-alone c = spelling.spelled_alone

pub returns-clause-reason : goal.returns-clause-reason
returns-clause-reason c = spelling.one_reason

pub returns-clause-some : goal.returns-clause-some
returns-clause-some c = spelling.shape_reads
