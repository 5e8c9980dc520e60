-- Entries for numbers: where one stands, and what becomes of them when a value is set.
use Rattle.std.specs.Prelude.{ℕ, ◌≡◌, ◌<◌, true, false, cond, List, length, slice_index_or, nat_eq, Some}
use Rattle.std.specs.Map.{lookup}

-- no entry has the number
abbrev pub HasNone : ℕ → List (ℕ × ℕ) → Type 0
HasNone n es = (k : ℕ) → k < length es → nat_eq n (slice_index_or es k (0, 0)).0 ≡ false

-- the first entry with the number stands at the place
pub record IsPlaceOf (n : ℕ) (es : List (ℕ × ℕ)) (place : ℕ) : Type 0 where
  pub within : place < length es
  pub here : nat_eq n (slice_index_or es place (0, 0)).0 ≡ true
  pub before : (k : ℕ) → k < place → nat_eq n (slice_index_or es k (0, 0)).0 ≡ false

-- the number has the value, and each other number the one that it had
abbrev pub Sets : ℕ → ℕ → List (ℕ × ℕ) → List (ℕ × ℕ) → Type 0
Sets n value old new = (m : ℕ) → lookup (nat_eq m) new ≡ cond (nat_eq n m) (Some value) (lookup (nat_eq m) old)
