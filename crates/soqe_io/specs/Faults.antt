-- Counts of faults and of calls, which stay at the end of their type, and what a call owes to them.
use Rattle.std.specs.Prelude.{ℕ, ◌+◌, ◌-◌, ◌^◌, ◌≡◌, ◌≤◌, ◌==◌, min, Bool, List, Result, OnErr, OnOk}
use Rattle.std.specs.List.{list_any}

-- the count after one more, which stays at the end of a `u64`
abbrev pub next_count : ℕ → ℕ
next_count n = min (n + 1) (2 ^ 64 - 1)

-- the count has risen, or stands at its end
abbrev pub Rose : ℕ → ℕ → Type 0
Rose before now = next_count before ≤ now

-- the count has not fallen: a failure is told only where it rose, and a success only where it is as before
pub record HasCause {T E : Type 0} (before now : ℕ) (result : Result T E) : Type 0 where
  pub later : before ≤ now
  pub failed : OnErr result (Rose before now)
  pub quiet : OnOk result (now ≡ before)

-- whether the number of a call is among those at which an end fails
abbrev pub is_listed : List ℕ → ℕ → Bool
is_listed fail_at n = list_any (λ y. y == n) fail_at
