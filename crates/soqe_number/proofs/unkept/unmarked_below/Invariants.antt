use Rattle.std.proofs.Common.{◌≡◌, ℕ, ◌<◌, false, length}
use Rattle.soqe_number.specs.Marks.{marked}
use Rattle.soqe_number.specs.Unkept.{IsBefore, AreFirst}
use Rattle.soqe_number.proofs.unkept.unmarked_below.Given as goal

abbrev pub invariant-loop-n : goal.invariant-loop-n
invariant-loop-n l =
    AreFirst (marked l.marks) l.others × ((k : ℕ) → k < l.n → marked l.marks k ≡ false → IsBefore l.others (length l.others) k)
