-- The numbers below a count.
use Rattle.std.specs.Prelude.{ℕ, ◌≡◌, ◌<◌, ◌≤◌, true, false, List}
use Rattle.soqe_number.specs.Unused.{member}

-- the list has each number below n, and no other one
pub record AreBelow (nums : List ℕ) (n : ℕ) : Type 0 where
  pub has : (k : ℕ) → k < n → member k nums ≡ true
  pub lacks : (k : ℕ) → n ≤ k → member k nums ≡ false
