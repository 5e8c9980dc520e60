use Rattle.std.proofs.Common.{◌≡◌}
use Rattle.soqe_calls.specs.Shapes.{negations}
use Rattle.soqe_calls.proofs.shapes.negations.Given as goal

abbrev pub invariant-loop-k : goal.invariant-loop-k
invariant-loop-k l = l.made ≡ negations l._k
