-- How often numbers were counted, and how often they stand in a list.
use Rattle.std.specs.Prelude.{ℕ, ◌≡◌, ◌+◌, cond, eqb, List, [], ◌∷◌, nat_eq}
use Rattle.std.specs.Map.{lookup}
use Rattle.std.specs.Option.{unwrap_or}

-- the count of a number: 0 where it has none
unfoldable pub counted : List (ℕ × ℕ) → ℕ → ℕ
counted counts n = unwrap_or (lookup (nat_eq n) counts) 0

-- how often a number stands in a list
abbrev pub times : ℕ → List ℕ → ℕ
times n [] = 0
times n (k ∷ ks) = cond (eqb n k) 1 0 + times n ks

-- each number was counted as often more as p says
pub record Counts (p : ℕ → ℕ) (old new : List (ℕ × ℕ)) : Type 0 where
  pub is : (n : ℕ) → counted new n ≡ p n + counted old n
