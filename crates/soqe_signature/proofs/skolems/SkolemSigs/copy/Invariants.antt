use Rattle.std.proofs.Common.{◌≡◌, take}
use Rattle.soqe_signature.proofs.skolems.SkolemSigs.copy.Given as goal

abbrev pub invariant-loop-skolem : goal.invariant-loop-skolem
invariant-loop-skolem l = l.copy ≡ take l.skolem-index l.self
