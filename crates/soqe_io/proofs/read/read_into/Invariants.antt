use Rattle.std.proofs.Common.{◌≡◌, ◌-◌, ◌≤◌}
use Rattle.soqe_io.specs.Read.{HasRead}
use Rattle.soqe_io.proofs.read.read_into.Given as goal

abbrev pub invariant-loop-done : goal.invariant-loop-done
invariant-loop-done g l =
    (l.done ≤ l.limit)
    × HasRead g.T.Intake.HasTaken (g.S.Source.left l.fn.source) (g.S.Source.left l.source) l.fn.into l.into l.done
    × (g.S.Source.faults l.source ≡ g.S.Source.faults l.fn.source)
    × g.S.Source.IsOpen l.source

abbrev pub decreases-loop-done : goal.decreases-loop-done
decreases-loop-done g l = l.limit - l.done
