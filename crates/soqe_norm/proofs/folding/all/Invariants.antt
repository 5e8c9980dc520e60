use Rattle.std.proofs.Common.{◌≡◌, length, None}
use Rattle.std.specs.Vec.Iter.{into_iter_items, into_iter_len}
use Rattle.soqe_norm.specs.Joins.{and_onto}
use Rattle.soqe_norm.proofs.folding.all.Given as goal

abbrev pub invariant-loop-form : goal.invariant-loop-form
invariant-loop-form l =
    (and_onto l.made (into_iter_items l.form-iterator) ≡ and_onto None l.fn.forms)
    × (into_iter_len l.form-iterator ≡ length (into_iter_items l.form-iterator))
