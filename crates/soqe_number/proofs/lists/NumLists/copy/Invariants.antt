use Rattle.std.proofs.Common.{◌≡◌, take}
use Rattle.soqe_number.proofs.lists.NumLists.copy.Given as goal

abbrev pub invariant-loop-nums : goal.invariant-loop-nums
invariant-loop-nums l = l.copy ≡ take l.nums-index l.self
