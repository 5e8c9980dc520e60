use Rattle.std.proofs.Common.{◌≡◌, ℕ, ◌<◌, false, nat_eq, slice_index_or}
use Rattle.soqe_number.proofs.few.Few.place.Given as goal

abbrev pub invariant-loop-place : goal.invariant-loop-place
invariant-loop-place l = (k : ℕ) → k < l.place → nat_eq l.n (slice_index_or l.self-inside.entries k (0, 0)).0 ≡ false
