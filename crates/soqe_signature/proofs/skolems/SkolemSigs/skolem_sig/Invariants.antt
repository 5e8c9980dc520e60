use Rattle.std.proofs.Common.{◌≡◌, drop}
use Rattle.soqe_signature.specs.SkolemSigs.{skolem_sort_of}
use Rattle.soqe_signature.proofs.skolems.SkolemSigs.skolem_sig.Given as goal

abbrev pub invariant-loop-skolem : goal.invariant-loop-skolem
invariant-loop-skolem l = skolem_sort_of l.self l.num ≡ skolem_sort_of (drop l.skolem-index l.self) l.num
