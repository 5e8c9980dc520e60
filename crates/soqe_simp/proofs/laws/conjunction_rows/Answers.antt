use Rattle.soqe_simp.proofs.AndRows.{true_and-keeps, and_true-keeps, false_and-keeps, and_false-keeps, and_same-keeps, and_opposite-keeps, opposite_and-keeps}
use Rattle.soqe_simp.proofs.laws.conjunction_rows.Goals as goal

pub returns-clause-true_and : goal.returns-clause-true_and
returns-clause-true_and c = true_and-keeps

pub returns-clause-and_true : goal.returns-clause-and_true
returns-clause-and_true c = and_true-keeps

pub returns-clause-false_and : goal.returns-clause-false_and
returns-clause-false_and c = false_and-keeps

pub returns-clause-and_false : goal.returns-clause-and_false
returns-clause-and_false c = and_false-keeps

pub returns-clause-and_same : goal.returns-clause-and_same
returns-clause-and_same c = and_same-keeps

pub returns-clause-and_opposite : goal.returns-clause-and_opposite
returns-clause-and_opposite c = and_opposite-keeps

pub returns-clause-opposite_and : goal.returns-clause-opposite_and
returns-clause-opposite_and c = opposite_and-keeps
