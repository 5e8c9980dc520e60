use Rattle.std.proofs.Common.{◌≡◌, drop}
use Rattle.soqe_signature.specs.Scope.{sorts_among}
use Rattle.soqe_signature.proofs.sorting.free_pred_sorts.Given as goal

abbrev pub invariant-loop-p : goal.invariant-loop-p
invariant-loop-p l = sorts_among l.preds l.num ≡ sorts_among (drop l.p-index l.preds) l.num
