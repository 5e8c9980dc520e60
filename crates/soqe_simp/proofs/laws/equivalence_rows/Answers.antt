use Rattle.soqe_simp.proofs.IffRows.{true_iff-keeps, iff_true-keeps, false_iff-keeps, iff_false-keeps, iff_itself-keeps}
use Rattle.soqe_simp.proofs.laws.equivalence_rows.Goals as goal

pub returns-clause-true_iff : goal.returns-clause-true_iff
returns-clause-true_iff c = true_iff-keeps

pub returns-clause-iff_true : goal.returns-clause-iff_true
returns-clause-iff_true c = iff_true-keeps

pub returns-clause-false_iff : goal.returns-clause-false_iff
returns-clause-false_iff c = false_iff-keeps

pub returns-clause-iff_false : goal.returns-clause-iff_false
returns-clause-iff_false c = iff_false-keeps

pub returns-clause-iff_itself : goal.returns-clause-iff_itself
returns-clause-iff_itself c = iff_itself-keeps
