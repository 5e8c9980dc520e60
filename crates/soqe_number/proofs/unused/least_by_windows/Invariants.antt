use Rattle.std.proofs.Common.{◌≡◌, ℕ, ◌-◌, ◌<◌, length, true}
use Rattle.soqe_number.specs.Unused.{member}
use Rattle.soqe_number.proofs.unused.least_by_windows.Given as goal

abbrev pub invariant-loop-base : goal.invariant-loop-base
invariant-loop-base l = record {
  width : 0 < length l.marks;
  found : (k : ℕ) → k < l.base → member k l.used ≡ true;
}

abbrev pub decreases-loop-base : goal.decreases-loop-base
decreases-loop-base l = length l.used - l.base
