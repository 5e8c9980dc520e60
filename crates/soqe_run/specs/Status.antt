-- The number of each status.
use Rattle.std.specs.Prelude.{ℕ}
use Rattle.soqe_run.specs.declared.status.Status.{Status}
use Rattle.soqe_run.specs.declared.status.Status.TheVariants.{Done, Usage, Syntax, Names, Sorts, TooLong, ReadFault, WriteFault, Memory, NotReached, Mixed}

-- the number of each status
abbrev pub number_of : Status → ℕ
number_of Done = 0
number_of Usage = 2
number_of Syntax = 3
number_of Names = 4
number_of Sorts = 5
number_of TooLong = 6
number_of ReadFault = 7
number_of WriteFault = 8
number_of Memory = 9
number_of NotReached = 12
number_of Mixed = 14
