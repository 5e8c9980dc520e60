use Rattle.soqe_subst.proofs.PredRenamings.{truth-renamed_pred, truth-renumbered_all, truth-renumbered_ex}
use Rattle.soqe_subst.proofs.PredSorts.{sorted-renamed_pred, sorted-renumbered_all, sorted-renumbered_ex}
use Rattle.soqe_subst.proofs.laws.renamed_predicates.Goals as goal

pub returns-clause-truth : goal.returns-clause-truth
returns-clause-truth c = truth-renamed_pred

pub returns-clause-sorted : goal.returns-clause-sorted
returns-clause-sorted c = sorted-renamed_pred

pub returns-clause-all_truth : goal.returns-clause-all_truth
returns-clause-all_truth c = truth-renumbered_all

pub returns-clause-ex_truth : goal.returns-clause-ex_truth
returns-clause-ex_truth c = truth-renumbered_ex

pub returns-clause-all_sorted : goal.returns-clause-all_sorted
returns-clause-all_sorted c = sorted-renumbered_all

pub returns-clause-ex_sorted : goal.returns-clause-ex_sorted
returns-clause-ex_sorted c = sorted-renumbered_ex
