use Rattle.std.proofs.Common.{take}
use Rattle.soqe_number.specs.Marks.{marked}
use Rattle.soqe_ack.proofs.ParameterChoice.{AreChosen}
use Rattle.soqe_ack.proofs.params.choose.Given as goal

abbrev pub invariant-loop-sort : goal.invariant-loop-sort
invariant-loop-sort l = AreChosen (marked l.fn.used) (take l.sort-index l.sorts) l.params (marked l.used) l.next
