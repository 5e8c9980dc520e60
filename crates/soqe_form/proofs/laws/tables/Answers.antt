use Rattle.soqe_form.proofs.Tables.{some-table, every-table}
use Rattle.soqe_form.proofs.laws.tables.Goals as goal

pub returns-clause-some : goal.returns-clause-some
returns-clause-some c = some-table

pub returns-clause-every : goal.returns-clause-every
returns-clause-every c = every-table
