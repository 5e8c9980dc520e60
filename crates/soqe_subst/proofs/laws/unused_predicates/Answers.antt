use Rattle.soqe_form.proofs.FreePreds.{truth-unchanged}
use Rattle.soqe_subst.proofs.PredSorts.{sorted-unchanged}
use Rattle.soqe_subst.proofs.laws.unused_predicates.Goals as goal

pub returns-clause-truth : goal.returns-clause-truth
returns-clause-truth c = truth-unchanged

pub returns-clause-sorted : goal.returns-clause-sorted
returns-clause-sorted c = sorted-unchanged
