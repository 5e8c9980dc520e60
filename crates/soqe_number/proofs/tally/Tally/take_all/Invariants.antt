use Rattle.std.proofs.Common.{take}
use Rattle.soqe_number.specs.Counts.{times}
use Rattle.soqe_number.specs.Tallies.{Loses}
use Rattle.soqe_number.proofs.tally.Tally.take_all.Given as goal

abbrev pub invariant-loop-n : goal.invariant-loop-n
invariant-loop-n l = Loses l.kept (λ m. times m (take l.n-index l.nums)) l.initial.self l.self
