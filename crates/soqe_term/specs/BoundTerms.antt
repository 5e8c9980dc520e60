-- What a binding stores, as variables with their terms.
use Rattle.std.specs.Prelude.{ℕ, List, map}
use Rattle.soqe_term.specs.declared.bindings.Bound.{Bound}
use Rattle.soqe_term.specs.declared.bindings.BoundTerm.{BoundTerm}

abbrev pub bound_of : ℕ × BoundTerm → Bound
bound_of e = record { var = record { num = e.0; sort = e.1.sort }; term = e.1.term }

abbrev pub bounds : List (ℕ × BoundTerm) → List Bound
bounds entries = map bound_of entries
