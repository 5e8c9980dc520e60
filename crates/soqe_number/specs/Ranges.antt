-- Arguments in range, and the table of a test.
use Rattle.std.specs.Prelude.{ℕ, zero, suc, ◌<◌, Bool, List, [], ◌∷◌, ◌++◌}

-- each argument is below the size of its sort, and there are as many as sorts
abbrev pub InRange : List ℕ → List ℕ → Type 0
InRange [] [] = Unit {0}
InRange [] (a ∷ more) = ⊥
InRange (n ∷ ns) [] = ⊥
InRange (n ∷ ns) (a ∷ more) = (a < n) × InRange ns more

-- the lists that f gives for the numbers below n, one after another
abbrev pub joined : ℕ → (ℕ → List Bool) → List Bool
joined zero f = []
joined (suc n) f = joined n f ++ f n

-- the table of a test over the lists of arguments of these sizes
abbrev pub tabulated : List ℕ → (List ℕ → Bool) → List Bool
tabulated [] g = g [] ∷ []
tabulated (n ∷ ns) g = joined n (λ a. tabulated ns (λ more. g (a ∷ more)))
