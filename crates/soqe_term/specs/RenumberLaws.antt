-- What a term under other numbers says.
use Rattle.std.specs.Prelude.{ℕ, ◌≡◌}
use Rattle.soqe_term.specs.declared.term.Term.{Term}
use Rattle.soqe_term.specs.World.{World}
use Rattle.soqe_term.specs.Value.{value}
use Rattle.soqe_term.specs.Sorting.{Sorting, sorted_term}
use Rattle.soqe_term.specs.Renumber.{renumbered}

-- its value is the term's where each variable has the element of its new number
abbrev pub RenumberedHasValue : Type 0
RenumberedHasValue = (w : World) (r : ℕ → ℕ) (t : Term) → value w (renumbered r t) ≡ value (record w { element = λ n. w.element (r n) }) t

-- it is well sorted where the term is with each variable known by its new number
abbrev pub RenumberedIsSorted : Type 0
RenumberedIsSorted = (e : Sorting) (r : ℕ → ℕ) (t : Term) → sorted_term e (renumbered r t) ≡ sorted_term (record e { variable = λ n. e.variable (r n) }) t
