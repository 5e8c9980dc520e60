use Rattle.std.proofs.Common.{◌≡◌}
use Rattle.soqe_calls.specs.Shapes.{rows}
use Rattle.soqe_calls.proofs.shapes.rows.Given as goal

abbrev pub invariant-loop-k : goal.invariant-loop-k
invariant-loop-k l = l.made ≡ rows l._k l.fn.row l.fn.first
