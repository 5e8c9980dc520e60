use Rattle.soqe_simp.proofs.OrRows.{true_or-keeps, or_true-keeps, false_or-keeps, or_false-keeps, or_same-keeps, or_opposite-keeps, opposite_or-keeps, not_or-keeps, or_not-keeps}
use Rattle.soqe_simp.proofs.laws.disjunction_rows.Goals as goal

pub returns-clause-true_or : goal.returns-clause-true_or
returns-clause-true_or c = true_or-keeps

pub returns-clause-or_true : goal.returns-clause-or_true
returns-clause-or_true c = or_true-keeps

pub returns-clause-false_or : goal.returns-clause-false_or
returns-clause-false_or c = false_or-keeps

pub returns-clause-or_false : goal.returns-clause-or_false
returns-clause-or_false c = or_false-keeps

pub returns-clause-or_same : goal.returns-clause-or_same
returns-clause-or_same c = or_same-keeps

pub returns-clause-or_opposite : goal.returns-clause-or_opposite
returns-clause-or_opposite c = or_opposite-keeps

pub returns-clause-opposite_or : goal.returns-clause-opposite_or
returns-clause-opposite_or c = opposite_or-keeps

pub returns-clause-not_or : goal.returns-clause-not_or
returns-clause-not_or c = not_or-keeps

pub returns-clause-or_not : goal.returns-clause-or_not
returns-clause-or_not c = or_not-keeps
