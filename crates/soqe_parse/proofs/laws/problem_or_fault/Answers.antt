use Rattle.soqe_parse.proofs.Outcomes.{problem_or_fault}
use Rattle.soqe_parse.proofs.laws.problem_or_fault.Goals as goal

pub returns : goal.returns
returns c = problem_or_fault
