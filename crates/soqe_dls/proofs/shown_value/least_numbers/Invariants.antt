use Rattle.std.proofs.Common.{map, take}
use Rattle.soqe_number.specs.Marks.{marked}
use Rattle.soqe_ack.proofs.ParameterChoice.{AreChosen}
use Rattle.soqe_dls.proofs.shown_value.least_numbers.Given as goal

abbrev pub invariant-loop-x : goal.invariant-loop-x
invariant-loop-x l = AreChosen (marked l.fn.used) (map (λ x. x.sort) (take l.x-index l.params)) l.new (marked l.used) l.next
