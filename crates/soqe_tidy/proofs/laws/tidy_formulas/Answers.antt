use Rattle.soqe_tidy.specs.Tidy.{tidy}
use Rattle.soqe_form.proofs.SameTruth.{truth-same}
use Rattle.soqe_form.proofs.SameSorted.{sorted-same}
use Rattle.soqe_form.proofs.SameNames.{free-same, free_pred-same}
use Rattle.soqe_form.proofs.SamePures.{blocks-same, first_order-same}
use Rattle.soqe_tidy.proofs.Tidied.{free_occurrences-tidy, same-tidy}
use Rattle.soqe_tidy.proofs.TidiedAgain.{tidy-again}
use Rattle.soqe_tidy.proofs.laws.tidy_formulas.Goals as goal

pub returns-clause-same : goal.returns-clause-same
returns-clause-same c = same-tidy

pub returns-clause-truth : goal.returns-clause-truth
returns-clause-truth c = λ keep f. truth-same (tidy keep f) f (same-tidy keep f)

pub returns-clause-sorts : goal.returns-clause-sorts
returns-clause-sorts c = λ keep f. sorted-same (tidy keep f) f (same-tidy keep f)

pub returns-clause-free : goal.returns-clause-free
returns-clause-free c = λ keep f. free-same (tidy keep f) f (same-tidy keep f)

pub returns-clause-free_preds : goal.returns-clause-free_preds
returns-clause-free_preds c = λ keep f. free_pred-same (tidy keep f) f (same-tidy keep f)

pub returns-clause-occurrences : goal.returns-clause-occurrences
returns-clause-occurrences c = free_occurrences-tidy

pub returns-clause-blocks : goal.returns-clause-blocks
returns-clause-blocks c = λ keep f. blocks-same (tidy keep f) f (same-tidy keep f)

pub returns-clause-first_order : goal.returns-clause-first_order
returns-clause-first_order c = λ keep f. first_order-same (tidy keep f) f (same-tidy keep f)

pub returns-clause-again : goal.returns-clause-again
returns-clause-again c = tidy-again
