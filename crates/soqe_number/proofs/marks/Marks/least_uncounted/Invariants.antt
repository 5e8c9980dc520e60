use Rattle.std.proofs.Common.{◌≡◌, ℕ, ◌<◌, ◌||◌, true, not, eqb}
use Rattle.soqe_number.specs.Marks.{marked}
use Rattle.soqe_number.specs.Counts.{counted}
use Rattle.soqe_number.proofs.marks.Marks.least_uncounted.Given as goal

abbrev pub invariant-loop-n : goal.invariant-loop-n
invariant-loop-n l = (k : ℕ) → k < l.n → (marked l.self k || not (eqb (counted l.counts k) 0)) ≡ true
