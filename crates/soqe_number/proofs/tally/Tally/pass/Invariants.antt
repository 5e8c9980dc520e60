use Rattle.std.proofs.Common.{◌≡◌}
use Rattle.soqe_number.specs.Tallies.{Passes}
use Rattle.soqe_number.proofs.tally.Tally.pass.Given as goal

abbrev pub invariant-loop-i : goal.invariant-loop-i
invariant-loop-i l = Passes l.kept l.initial.self l.self × (l.self.next ≡ l.i)
