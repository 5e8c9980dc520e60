use Rattle.soqe_simp.proofs.ImpRows.{true_implies-keeps, false_implies-keeps, implies_true-keeps, implies_false-keeps, implies_itself-keeps, implies_implication-keeps, implies_negation-keeps}
use Rattle.soqe_simp.proofs.laws.implication_rows.Goals as goal

pub returns-clause-true_implies : goal.returns-clause-true_implies
returns-clause-true_implies c = true_implies-keeps

pub returns-clause-false_implies : goal.returns-clause-false_implies
returns-clause-false_implies c = false_implies-keeps

pub returns-clause-implies_true : goal.returns-clause-implies_true
returns-clause-implies_true c = implies_true-keeps

pub returns-clause-implies_false : goal.returns-clause-implies_false
returns-clause-implies_false c = implies_false-keeps

pub returns-clause-implies_itself : goal.returns-clause-implies_itself
returns-clause-implies_itself c = implies_itself-keeps

pub returns-clause-implies_implication : goal.returns-clause-implies_implication
returns-clause-implies_implication c = implies_implication-keeps

pub returns-clause-implies_negation : goal.returns-clause-implies_negation
returns-clause-implies_negation c = implies_negation-keeps
