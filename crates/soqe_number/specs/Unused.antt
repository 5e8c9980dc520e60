-- The least number that a list lacks.
use Rattle.std.specs.Prelude.{ℕ, ◌<◌, ◌≡◌, Bool, true, false, List, eqb}
use Rattle.std.specs.List.{list_any}

-- a list has a number
abbrev pub member : ℕ → List ℕ → Bool
member n xs = list_any (λ x. eqb n x) xs

-- the list lacks n, and has every smaller number
pub record IsLeastUnused (used : List ℕ) (n : ℕ) : Type 0 where
  pub unused : member n used ≡ false
  pub least : (k : ℕ) → k < n → member k used ≡ true
