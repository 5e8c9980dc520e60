use Rattle.soqe_form.proofs.Pures.{free-known, first-order}
use Rattle.soqe_form.proofs.laws.known_names.Goals as goal

pub returns-clause-free : goal.returns-clause-free
returns-clause-free c = free-known

pub returns-clause-first_order : goal.returns-clause-first_order
returns-clause-first_order c = first-order
