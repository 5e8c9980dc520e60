use Rattle.soqe_syntax.proofs.Productions.{formula-shape, formula-spelled}
use Rattle.soqe_syntax.proofs.laws.two_forms.Goals as goal

pub returns-clause-by_productions : goal.returns-clause-by_productions
returns-clause-by_productions c = formula-shape

pub returns-clause-by_spelling : goal.returns-clause-by_spelling
returns-clause-by_spelling c = formula-spelled
