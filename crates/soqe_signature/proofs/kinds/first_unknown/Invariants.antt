use Rattle.std.proofs.Common.{◌≡◌, drop}
use Rattle.soqe_signature.specs.Declares.{first_unknown}
use Rattle.soqe_signature.proofs.kinds.first_unknown.Given as goal

abbrev pub invariant-loop-sort : goal.invariant-loop-sort
invariant-loop-sort l = first_unknown l.count l.sorts ≡ first_unknown l.count (drop l.sort-index l.sorts)
