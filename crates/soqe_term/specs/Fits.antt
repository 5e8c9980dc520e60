-- When a world fits what is known of the names, and when two worlds are one as far as that goes.
use Rattle.std.specs.Prelude.{ℕ, ◌≡◌, ◌<◌, List, map, Some}
use Rattle.soqe_term.specs.World.{World}
use Rattle.soqe_number.specs.Ranges.{InRange}
use Rattle.soqe_term.specs.Sorting.{FunSort, Sorting}

-- the values of f are in range at arguments in range
abbrev pub StaysIn : World → FunSort → (List ℕ → ℕ) → Type 0
StaysIn w k f = (args : List ℕ) → InRange (map w.size k.args) args → f args < w.size k.result

-- no sort is empty, functions stay in range, and known variables have elements of their sorts
pub record Fits (w : World) (e : Sorting) : Type 0 where
  pub size : (s : ℕ) → 0 < w.size s
  pub fun : (n : ℕ) (k : FunSort) → e.fun n ≡ Some k → StaysIn w k (w.fun n)
  pub skolem : (n : ℕ) (k : FunSort) → e.skolem n ≡ Some k → StaysIn w k (w.skolem n)
  pub element : (n s : ℕ) → e.variable n ≡ Some s → w.element n < w.size s

-- f and g are equal at arguments in range
abbrev pub EqualIn : {A : Type 0} → World → List ℕ → (List ℕ → A) → (List ℕ → A) → Type 0
EqualIn w sorts f g = (args : List ℕ) → InRange (map w.size sorts) args → f args ≡ g args

-- two worlds agree on all known names, at arguments in range
pub record Matches (e : Sorting) (w v : World) : Type 0 where
  pub size : w.size ≡ v.size
  pub fun : (n : ℕ) (k : FunSort) → e.fun n ≡ Some k → EqualIn w k.args (w.fun n) (v.fun n)
  pub skolem : (n : ℕ) (k : FunSort) → e.skolem n ≡ Some k → EqualIn w k.args (w.skolem n) (v.skolem n)
  pub declared : (n : ℕ) (sorts : List ℕ) → e.declared n ≡ Some sorts → EqualIn w sorts (w.declared n) (v.declared n)
  pub bound : (n : ℕ) (sorts : List ℕ) → e.bound n ≡ Some sorts → EqualIn w sorts (w.bound n) (v.bound n)
  pub element : (n s : ℕ) → e.variable n ≡ Some s → w.element n ≡ v.element n
