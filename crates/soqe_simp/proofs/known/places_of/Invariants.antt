use Rattle.soqe_number.specs.Counts.{counted}
use Rattle.soqe_simp.specs.Known.{ArePlaces}
use Rattle.soqe_simp.proofs.known.places_of.Given as goal

abbrev pub invariant-loop-at : goal.invariant-loop-at
invariant-loop-at l = ArePlaces l.at l.chain (counted l.places)
