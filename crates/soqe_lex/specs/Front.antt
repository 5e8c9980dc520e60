-- The longest front of a text that passes a test.
use Rattle.std.specs.Prelude.{◌≡◌, ℕ, ◌≤◌, ◌<◌, Bool, true, false, List, length, take}

-- The first n bytes pass the test, and no more of them do.
pub record IsLongestOf (test : List ℕ → Bool) (bytes : List ℕ) (n : ℕ) : Type 0 where
  pub within : n ≤ length bytes
  pub passes : test (take n bytes) ≡ true
  pub longest : (k : ℕ) → n < k → k ≤ length bytes → test (take k bytes) ≡ false

-- No front of the text passes the test.
abbrev pub HasNone : (List ℕ → Bool) → List ℕ → Type 0
HasNone test bytes = (k : ℕ) → k ≤ length bytes → test (take k bytes) ≡ false
