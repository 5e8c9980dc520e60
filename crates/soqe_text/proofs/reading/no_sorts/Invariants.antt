use Rattle.std.proofs.Common.{◌≡◌, None}
use Rattle.soqe_text.specs.Uses.{all_below}
use Rattle.soqe_text.proofs.reading.no_sorts.Given as goal

abbrev pub invariant-loop-num : goal.invariant-loop-num
invariant-loop-num l = l.sorts.items ≡ all_below l._num (λ n. None)
