use Rattle.soqe_simp.proofs.NotRows.{not_true-keeps, not_false-keeps, not_not-keeps, equal_itself-keeps}
use Rattle.soqe_simp.proofs.laws.negation_rows.Goals as goal

pub returns-clause-not_true : goal.returns-clause-not_true
returns-clause-not_true c = not_true-keeps

pub returns-clause-not_false : goal.returns-clause-not_false
returns-clause-not_false c = not_false-keeps

pub returns-clause-not_not : goal.returns-clause-not_not
returns-clause-not_not c = not_not-keeps

pub returns-clause-equal_itself : goal.returns-clause-equal_itself
returns-clause-equal_itself c = equal_itself-keeps
