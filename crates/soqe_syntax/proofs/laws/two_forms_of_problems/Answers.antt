use Rattle.soqe_syntax.proofs.Productions.{whole-shape, whole-spelled}
use Rattle.soqe_syntax.proofs.laws.two_forms_of_problems.Goals as goal

pub returns-clause-by_productions : goal.returns-clause-by_productions
returns-clause-by_productions c = whole-shape

pub returns-clause-by_spelling : goal.returns-clause-by_spelling
returns-clause-by_spelling c = whole-spelled
