use Rattle.std.proofs.Common.{add-one}
use Rattle.soqe_number.specs.Marks.{marked}
use Rattle.soqe_subst.proofs.StandingListed.{listed-take}
use Rattle.soqe_subst.proofs.standing.list_binding.Goals as goal

pub loop-place-preserved : goal.loop-place-preserved
loop-place-preserved c =
    listed-take (marked c.args.hidden.now) c.args.binding.now c.loop-place.place _ _ _ _ (add-one c.loop-place.place) c.loop-place.invariant c.in_ok-list_at.ensures
