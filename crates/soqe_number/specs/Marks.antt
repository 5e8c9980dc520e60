-- Marked numbers.
use Rattle.std.specs.Prelude.{ℕ, ◌≡◌, ◌<◌, Bool, true, false, not, eqb, ◌||◌, List, map, nat_eq}
use Rattle.std.specs.Map.{lookup}
use Rattle.std.specs.Option.{unwrap_or}

-- the number has a mark
unfoldable pub marked : List (ℕ × Bool) → ℕ → Bool
marked marks n = unwrap_or (lookup (nat_eq n) marks) false

-- the marks where each number has a value: it has a mark where that is not 0
abbrev pub as_marks : List (ℕ × ℕ) → List (ℕ × Bool)
as_marks = map (λ e. (e.0, not (eqb e.1 0)))

-- the least number that fails a test
pub record IsLeastWithout (p : ℕ → Bool) (n : ℕ) : Type 0 where
  pub fails : p n ≡ false
  pub below : (k : ℕ) → k < n → p k ≡ true

-- the numbers that pass the test got a mark, and the others stayed as they were
pub record Adds (p : ℕ → Bool) (old new : List (ℕ × Bool)) : Type 0 where
  pub is : marked new ≡ (λ n. p n || marked old n)
