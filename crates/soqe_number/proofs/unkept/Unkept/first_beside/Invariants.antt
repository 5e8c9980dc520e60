use Rattle.std.proofs.Common.{◌≡◌, ℕ, ◌<◌, true}
use Rattle.std.specs.Prelude.{slice_index}
use Rattle.soqe_number.specs.Unused.{member}
use Rattle.soqe_number.proofs.unkept.Unkept.first_beside.Given as goal

abbrev pub invariant-loop-n : goal.invariant-loop-n
invariant-loop-n l = (j : ℕ) → j < l.n-index → member (slice_index l.self.others j) l.nums ≡ true
