use Rattle.std.proofs.Common.{refl}
use Rattle.soqe_term.specs.Boxes.{boxes}
use Rattle.soqe_term.proofs.laws.samples.Goals as goal

pub returns-clause-product : goal.returns-clause-product
unfolding boxes
returns-clause-product c = refl

pub returns-clause-place : goal.returns-clause-place
unfolding boxes
returns-clause-place c = refl

pub returns-clause-entry : goal.returns-clause-entry
unfolding boxes
returns-clause-entry c = refl

pub returns-clause-past_the_end : goal.returns-clause-past_the_end
unfolding boxes
returns-clause-past_the_end c = refl

pub returns-clause-every : goal.returns-clause-every
unfolding boxes
returns-clause-every c = refl

pub returns-clause-not_every : goal.returns-clause-not_every
unfolding boxes
returns-clause-not_every c = refl

pub returns-clause-none : goal.returns-clause-none
unfolding boxes
returns-clause-none c = refl

pub returns-clause-table : goal.returns-clause-table
unfolding boxes
returns-clause-table c = refl
