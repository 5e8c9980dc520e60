-- The pairs of binders that the test of sameness has passed.
use Rattle.std.specs.Prelude.{ℕ, List, [], ◌∷◌}
use Rattle.soqe_form.specs.declared.sameness.Pairs.{Pairs}
use Rattle.soqe_form.specs.declared.sameness.Pairs.TheVariants as pairs

-- the pairs as a list, the innermost first
abbrev pub pairs_of : Pairs → List (ℕ × ℕ)
pairs_of pairs.Empty = []
pairs_of (pairs.Within' m n _ rest) = (m, n) ∷ pairs_of rest
