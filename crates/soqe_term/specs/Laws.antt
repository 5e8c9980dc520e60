-- Laws of worlds and of finite structures.
use Rattle.std.specs.Prelude.{ℕ, ◌≡◌, ◌<◌, Bool, true, length, List}
use Rattle.soqe_term.specs.declared.term.Term.{Term}
use Rattle.soqe_term.specs.World.{World}
use Rattle.soqe_term.specs.Value.{value}
use Rattle.soqe_number.specs.Finite.{product, entry}
use Rattle.soqe_number.specs.Ranges.{InRange, tabulated}
use Rattle.soqe_term.specs.Sorting.{Sorting, own_sort, sorted_term}
use Rattle.soqe_term.specs.Fits.{Fits, Matches}

-- the value of a well-sorted term is an element of its sort
abbrev pub ValuesStayInRange : Type 0
ValuesStayInRange = (w : World) (e : Sorting) (t : Term) → Fits w e → sorted_term e t ≡ true → value w t < w.size (own_sort t)

-- worlds that agree in range give one value to a well-sorted term
abbrev pub RangeDecidesValues : Type 0
RangeDecidesValues = (w v : World) (e : Sorting) (t : Term) → Fits w e → Matches e w v → sorted_term e t ≡ true → value w t ≡ value v t

-- the table of a test has an entry for each list of arguments in range
abbrev pub TablesAreWhole : Type 0
TablesAreWhole = (sizes : List ℕ) (g : List ℕ → Bool) → length (tabulated sizes g) ≡ product sizes

-- the table of a test gives it back at arguments in range
abbrev pub TablesGiveBack : Type 0
TablesGiveBack = (sizes args : List ℕ) (g : List ℕ → Bool) → InRange sizes args → entry sizes (tabulated sizes g) args ≡ g args
