use Rattle.std.proofs.Common.{take}
use Rattle.soqe_number.specs.Unused.{member}
use Rattle.soqe_number.specs.Marks.{Adds}
use Rattle.soqe_number.proofs.marking.mark_numbers.Given as goal

abbrev pub invariant-loop-number : goal.invariant-loop-number
invariant-loop-number l = Adds (λ n. member n (take l.number-index l.numbers)) l.fn.marks l.marks
