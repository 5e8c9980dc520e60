use Rattle.soqe_subst.proofs.Foreseen.{foresees-below}
use Rattle.soqe_subst.proofs.catching.+foresee.Goals as goal

pub foresee_below-returns-then-nests : goal.foresee_below-returns-then-nests
foresee_below-returns-then-nests t c =
    foresees-below _ _ _ _ _ _ _ _ _ _ _ _ _ _ _ _ c.has-was_hidden.ensures c.of-outside.ensures c.in_ok-set.ensures c.get.ensures c.in_ok-nests.ensures c.in_ok-set-2.ensures c.of.ensures c.in_ok-push.ensures

pub foresee_below-returns-else-nests : goal.foresee_below-returns-else-nests
foresee_below-returns-else-nests t c =
    foresees-below _ _ _ _ _ _ _ _ _ _ _ _ _ _ _ _ c.has-was_hidden.ensures c.of-outside.ensures c.in_ok-set.ensures c.get.ensures c.in_ok-nests.ensures c.in_ok-set-2.ensures c.of.ensures c.in_ok-push.ensures
