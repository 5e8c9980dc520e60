use Rattle.std.proofs.Common.{◌≡◌}
use Rattle.soqe_calls.specs.Shapes.{wide}
use Rattle.soqe_calls.proofs.shapes.wide.Given as goal

abbrev pub invariant-loop-k : goal.invariant-loop-k
invariant-loop-k l = l.made ≡ wide l.k
