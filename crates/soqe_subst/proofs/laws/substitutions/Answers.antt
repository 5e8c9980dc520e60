use Rattle.soqe_subst.proofs.Substitutions.{truth-sub}
use Rattle.soqe_subst.proofs.SubstitutedSorts.{sorted-sub_binding}
use Rattle.soqe_subst.proofs.laws.substitutions.Goals as goal

pub returns-clause-truth : goal.returns-clause-truth
returns-clause-truth c = truth-sub

pub returns-clause-sorted : goal.returns-clause-sorted
returns-clause-sorted c = sorted-sub_binding
