use Rattle.soqe_subst.proofs.SubstitutingParts.{larger-left, larger-right}
use Rattle.soqe_subst.proofs.substitution.part.Goals as goal

pub returns-in_ok-leave-clause-tally : goal.returns-in_ok-leave-clause-tally
returns-in_ok-leave-clause-tally c = larger-right _ _ _ _ _ c.in_ok-leave.ensures.tally

pub returns-in_ok-leave-2-clause-tally : goal.returns-in_ok-leave-2-clause-tally
returns-in_ok-leave-2-clause-tally c = larger-left _ _ _ _ _ c.in_ok-leave-2.ensures.tally
