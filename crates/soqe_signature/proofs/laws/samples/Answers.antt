use Rattle.std.proofs.Common.{refl}
use Rattle.soqe_term.specs.Boxes.{boxes}
use Rattle.soqe_signature.proofs.laws.samples.Goals as goal

pub returns-clause-value : goal.returns-clause-value
unfolding boxes
returns-clause-value c = refl

pub returns-clause-applied : goal.returns-clause-applied
unfolding boxes
returns-clause-applied c = refl

pub returns-clause-well_sorted : goal.returns-clause-well_sorted
unfolding boxes
returns-clause-well_sorted c = refl
