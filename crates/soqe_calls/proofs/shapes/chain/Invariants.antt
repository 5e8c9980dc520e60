use Rattle.std.proofs.Common.{◌≡◌}
use Rattle.soqe_calls.specs.Shapes.{chain}
use Rattle.soqe_calls.proofs.shapes.chain.Given as goal

abbrev pub invariant-loop-k : goal.invariant-loop-k
invariant-loop-k l = l.made ≡ chain l._k
