use Rattle.soqe_calls.specs.Listed.{AreBelow}
use Rattle.soqe_calls.proofs.shapes.list.Given as goal

abbrev pub invariant-loop-n : goal.invariant-loop-n
invariant-loop-n l = AreBelow l.nums l.n
