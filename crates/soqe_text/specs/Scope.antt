-- How often each number is in scope.
use Rattle.std.specs.Prelude.{◌≡◌, ℕ, suc, cond, eqb, List, [], ◌∷◌, Option}
use Rattle.std.specs.Option.{unwrap_or}

-- how often a number stands in a list
abbrev pub times : ℕ → List ℕ → ℕ
times n [] = 0
times n (k ∷ ks) = cond (eqb k n) (suc (times n ks)) (times n ks)

-- Each number has its count; those without one do not stand in the list.
abbrev pub IsCounted : (ℕ → Option ℕ) → List ℕ → Type 0
IsCounted counts scope = (n : ℕ) → unwrap_or (counts n) 0 ≡ times n scope
