use Rattle.std.proofs.Common.{◌≡◌}
use Rattle.soqe_calls.specs.Shapes.{bound}
use Rattle.soqe_calls.proofs.shapes.bound.Given as goal

abbrev pub invariant-loop-k : goal.invariant-loop-k
invariant-loop-k l = l.made ≡ bound l.k l.fn.body
