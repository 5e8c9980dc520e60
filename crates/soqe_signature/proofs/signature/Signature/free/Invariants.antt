use Rattle.std.proofs.Common.{◌≡◌}
use Rattle.soqe_signature.specs.Declarations.{vars_below, free_sort_of}
use Rattle.soqe_signature.proofs.signature.Signature.free.Given as goal

abbrev pub invariant-loop-num : goal.invariant-loop-num
invariant-loop-num l = l.vars ≡ vars_below l.num (free_sort_of l.self)
