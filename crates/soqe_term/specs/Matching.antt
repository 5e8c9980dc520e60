-- When a pattern becomes a term by binding its variables.
use Rattle.std.specs.Prelude.{ℕ, ◌≡◌, Bool, ◌||◌, List, [], ◌∷◌, ◌++◌, map, eqb, cond, is_some}
use Rattle.soqe_term.specs.declared.bindings.Bound.{Bound}
use Rattle.soqe_term.specs.declared.term.Var.{Var}
use Rattle.soqe_term.specs.declared.term.Term.{Term, Var as var, App}
use Rattle.soqe_term.specs.declared.term.Terms.{Terms, Nil, Cons', end_of-Term as end, more_of-Term as one, end_of-Terms as ends, more_of-Terms as ones}
use Rattle.soqe_number.specs.Unused.{member}
use Rattle.soqe_term.specs.Bindings.{bound_term, bound_in, HasOwnSorts}

abbrev mutual
  -- the variables at their occurrences, from left to right
  pub vars_of : Term → List Var
  vars_of (var x) = x ∷ []
  vars_of (App f s ts) = vars_in ts

  pub vars_in : Terms → List Var
  vars_in Nil = []
  vars_in (Cons' _ (one t end) _ (ones ts ends)) = vars_of t ++ vars_in ts

-- the variables that aren't known, each at its first occurrence alone
abbrev pub new_vars : (ℕ → Bool) → List Var → List Var
new_vars known [] = []
new_vars known (x ∷ xs) = cond (known x.num) (new_vars known xs) (x ∷ new_vars (λ n. eqb n x.num || known n) xs)

-- a variable keeps its place or has its term already
abbrev pub is_known : List ℕ → List Bound → ℕ → Bool
is_known fixed s n = member n fixed || is_some (bound_term s n)

-- The answer is the given binding, and behind it the variables of the pattern that are neither fixed nor bound, in order
-- of first occurrence, each with a term of its own sort. It makes the pattern the term.
pub record IsMatch (fixed : List ℕ) (pattern term : Term) (given answer : List Bound) : Type 0 where
  pub more : List Bound
  pub extends : answer ≡ given ++ more
  pub variables : map (λ b. b.var) more ≡ new_vars (is_known fixed given) (vars_of pattern)
  pub own_sorts : HasOwnSorts more
  pub becomes : bound_in answer pattern ≡ term

-- a pattern matches a term in one way at most
abbrev pub MatchesAreUnique : Type 0
MatchesAreUnique =
    (fixed : List ℕ) (pattern term : Term) (given a b : List Bound) → IsMatch fixed pattern term given a → IsMatch fixed pattern term given b → a ≡ b
