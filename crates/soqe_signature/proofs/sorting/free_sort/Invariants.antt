use Rattle.std.proofs.Common.{◌≡◌, drop}
use Rattle.soqe_signature.specs.Scope.{sort_among}
use Rattle.soqe_signature.proofs.sorting.free_sort.Given as goal

abbrev pub invariant-loop-x : goal.invariant-loop-x
invariant-loop-x l = sort_among l.free l.num ≡ sort_among (drop l.x-index l.free) l.num
