use Rattle.soqe_norm.proofs.Blocks.{replaces-block, stays-sorted, mixed-has-both, both-is-mixed}
use Rattle.soqe_norm.proofs.laws.block_value.Goals as goal

pub returns-clause-alike : goal.returns-clause-alike
returns-clause-alike c = replaces-block

pub returns-clause-sorted : goal.returns-clause-sorted
returns-clause-sorted c = stays-sorted

pub returns-clause-none : goal.returns-clause-none
returns-clause-none c = mixed-has-both

pub returns-clause-both : goal.returns-clause-both
returns-clause-both c = both-is-mixed
