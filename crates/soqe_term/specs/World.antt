-- What gives terms and formulas their meaning.
use Rattle.std.specs.Prelude.{ℕ, Bool, List}
use Rattle.soqe_number.specs.Updates.{changed}

-- The sizes of the sorts; the functions, Skolem functions, declared and bound predicates, each as a function of its
-- number and the list of its arguments; and the element of each variable. The elements of a sort of size n are the
-- numbers below n.
pub record World : Type 0 where
  pub size : ℕ → ℕ
  pub fun : ℕ → List ℕ → ℕ
  pub skolem : ℕ → List ℕ → ℕ
  pub declared : ℕ → List ℕ → Bool
  pub bound : ℕ → List ℕ → Bool
  pub element : ℕ → ℕ

-- the world with another element for one variable
abbrev pub with_var : World → ℕ → ℕ → World
with_var w x a = record w { element = changed w.element x a }

-- the world with another table for one bound predicate
abbrev pub with_bound : World → ℕ → (List ℕ → Bool) → World
with_bound w p t = record w { bound = changed w.bound p t }

-- the world with another table for one Skolem function
abbrev pub with_skolem : World → ℕ → (List ℕ → ℕ) → World
with_skolem w f t = record w { skolem = changed w.skolem f t }
