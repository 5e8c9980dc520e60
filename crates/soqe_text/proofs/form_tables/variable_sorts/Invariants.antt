use Rattle.std.proofs.Common.{◌≡◌, ◌-◌, drop, length}
use Rattle.soqe_signature.specs.Scope.{sort_among}
use Rattle.soqe_text.specs.Lookups.{ByNumber, places}
use Rattle.soqe_text.proofs.form_tables.variable_sorts.Given as goal

abbrev pub invariant-loop-n : goal.invariant-loop-n
invariant-loop-n l = places l.sorts ≡ ByNumber (sort_among (drop (length l.free - l.n) l.free))
