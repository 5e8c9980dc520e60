use Rattle.soqe_text.proofs.FormSpelling as spelling
use Rattle.soqe_text.proofs.laws.one_form_spelled.Goals as goal

pub returns-clause-one : goal.returns-clause-one
returns-clause-one c = spelling.one_form_spelled

pub returns-clause-alone : goal.returns-clause-alone
returns-clause-alone c = spelling.form_spelled_alone

pub returns-clause-reason : goal.returns-clause-reason
returns-clause-reason c = spelling.one_form_reason

pub returns-clause-some : goal.returns-clause-some
returns-clause-some c = spelling.form_shape_reads
