use Rattle.soqe_parse.proofs.Places.{one_problem}
use Rattle.soqe_parse.proofs.laws.one_problem.Goals as goal

pub returns : goal.returns
returns c = one_problem
