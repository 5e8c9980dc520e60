use Rattle.std.proofs.Common.{◌≡◌, length, ◌-◌, ◌≤◌, take}
use Rattle.std.specs.Io.KnownBytes.{Appends}
use Rattle.soqe_io.proofs.write.write_whole.Given as goal

abbrev pub invariant-loop-done : goal.invariant-loop-done
invariant-loop-done g l =
    (l.done ≤ length l.text)
    × Appends (g.O.Sink.taken l.fn.sink) (g.O.Sink.taken l.sink) (take l.done l.text)
    × (g.O.Sink.faults l.sink ≡ g.O.Sink.faults l.fn.sink)
    × g.O.Sink.IsOpen l.sink

abbrev pub decreases-loop-done : goal.decreases-loop-done
decreases-loop-done g l = length l.text - l.done
