use Rattle.soqe_show.proofs.Back.{usual_problem}
use Rattle.soqe_show.proofs.BackSpelledForms.{spelled_readable, reads_back_where_some}
use Rattle.soqe_show.proofs.laws.spelled_form_back.Goals as goal

pub returns-clause-readable : goal.returns-clause-readable
returns-clause-readable c = spelled_readable c.spelled_form_sorted.ensures

pub returns-clause-text : goal.returns-clause-text
returns-clause-text c = reads_back_where_some c.spelled_form_sorted.ensures

pub returns-clause-problem : goal.returns-clause-problem
returns-clause-problem c = usual_problem
