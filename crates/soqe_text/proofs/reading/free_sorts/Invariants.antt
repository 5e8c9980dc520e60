use Rattle.std.proofs.Common.{◌≡◌}
use Rattle.soqe_signature.specs.Declarations.{free_sort_of}
use Rattle.soqe_text.specs.Uses.{all_below}
use Rattle.soqe_text.proofs.reading.free_sorts.Given as goal

abbrev pub invariant-loop-num : goal.invariant-loop-num
invariant-loop-num l = l.sorts.items ≡ all_below l.num (free_sort_of l.sig)
