-- The numbers of variables.
use Rattle.std.specs.Prelude.{ℕ, map, List}
use Rattle.soqe_term.specs.declared.term.Var.{Var}

-- the numbers of variables
abbrev pub numbers : List Var → List ℕ
numbers ys = map (λ y. y.num) ys
