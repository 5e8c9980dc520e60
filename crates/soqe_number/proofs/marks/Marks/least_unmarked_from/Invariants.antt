use Rattle.std.proofs.Common.{◌≡◌, ℕ, ◌<◌, true}
use Rattle.soqe_number.specs.Marks.{marked}
use Rattle.soqe_number.proofs.marks.Marks.least_unmarked_from.Given as goal

abbrev pub invariant-loop-n : goal.invariant-loop-n
invariant-loop-n l = (k : ℕ) → k < l.n → marked l.self k ≡ true
