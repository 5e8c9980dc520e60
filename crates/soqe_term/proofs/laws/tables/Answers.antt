use Rattle.soqe_number.proofs.Enumerations.{length-tabulated, entry-tabulated}
use Rattle.soqe_term.proofs.laws.tables.Goals as goal

pub returns-clause-whole : goal.returns-clause-whole
returns-clause-whole c = length-tabulated

pub returns-clause-given_back : goal.returns-clause-given_back
returns-clause-given_back c = entry-tabulated
