use Rattle.soqe_term.proofs.Values.{value-below, value-match}
use Rattle.soqe_term.proofs.laws.worlds.Goals as goal

pub returns-clause-in_range : goal.returns-clause-in_range
returns-clause-in_range c = value-below

pub returns-clause-range : goal.returns-clause-range
returns-clause-range c = value-match
