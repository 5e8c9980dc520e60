use Rattle.soqe_show.proofs.PlacedShapes.{formula_has_shape}
use Rattle.soqe_show.proofs.PlacedTexts.{formula_has_texts}
use Rattle.soqe_show.proofs.laws.printed_formula.Goals as goal

pub returns-clause-shape : goal.returns-clause-shape
returns-clause-shape c = formula_has_shape

pub returns-clause-texts : goal.returns-clause-texts
returns-clause-texts c = formula_has_texts
