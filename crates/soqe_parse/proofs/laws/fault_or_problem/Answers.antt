use Rattle.soqe_parse.proofs.Places.{fault_or_problem}
use Rattle.soqe_parse.proofs.laws.fault_or_problem.Goals as goal

pub returns : goal.returns
returns c = fault_or_problem
