use Rattle.soqe_show.proofs.PlacedShapes.{problem_has_shape}
use Rattle.soqe_show.proofs.PlacedTexts.{problem_has_texts}
use Rattle.soqe_show.proofs.laws.printed_problem.Goals as goal

pub returns-clause-shape : goal.returns-clause-shape
returns-clause-shape c = problem_has_shape

pub returns-clause-texts : goal.returns-clause-texts
returns-clause-texts c = problem_has_texts
