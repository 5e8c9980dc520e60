use Rattle.std.proofs.Common.{◌≡◌}
use Rattle.soqe_calls.specs.Problems.{names}
use Rattle.soqe_calls.proofs.problems.names.Given as goal

abbrev pub invariant-loop-k : goal.invariant-loop-k
invariant-loop-k l = l.names ≡ names l.k
