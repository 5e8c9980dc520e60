use Rattle.soqe_term.proofs.Renumbered.{value-renumbered, sorted_term-renumbered}
use Rattle.soqe_term.proofs.laws.renumberings.Goals as goal

pub returns-clause-value : goal.returns-clause-value
returns-clause-value c = value-renumbered

pub returns-clause-sorted : goal.returns-clause-sorted
returns-clause-sorted c = sorted_term-renumbered
