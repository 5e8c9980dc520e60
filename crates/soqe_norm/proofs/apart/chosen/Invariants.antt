use Rattle.std.proofs.Common.{take}
use Rattle.soqe_number.specs.Marks.{marked}
use Rattle.soqe_norm.proofs.Choosing.{Chosen}
use Rattle.soqe_norm.proofs.apart.chosen.Given as goal

abbrev pub invariant-loop-number : goal.invariant-loop-number
invariant-loop-number l = Chosen (marked l.fn.taken) l.fn.old (take l.number-index l.old) l.new (marked l.taken) (marked l.used) l.next
