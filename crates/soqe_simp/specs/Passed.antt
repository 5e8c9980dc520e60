-- The binders that the search for a conjunct has passed.
use Rattle.std.specs.Prelude.{ℕ, List, [], ◌∷◌}
use Rattle.soqe_simp.specs.declared.conjuncts.Passed.{Passed}
use Rattle.soqe_simp.specs.declared.conjuncts.Passed.TheVariants as passed

-- their numbers, the innermost first
abbrev pub numbers_of : Passed → List ℕ
numbers_of passed.Nothing = []
numbers_of (passed.Within' n _ rest) = n ∷ numbers_of rest
