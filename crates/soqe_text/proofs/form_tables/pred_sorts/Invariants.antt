use Rattle.std.proofs.Common.{◌≡◌, ◌-◌, drop, length}
use Rattle.soqe_signature.specs.Scope.{sorts_among}
use Rattle.soqe_text.specs.Lookups.{ByNumber, places}
use Rattle.soqe_text.proofs.form_tables.pred_sorts.Given as goal

abbrev pub invariant-loop-n : goal.invariant-loop-n
invariant-loop-n l = places l.sorts ≡ ByNumber (sorts_among (drop (length l.preds - l.n) l.preds))
