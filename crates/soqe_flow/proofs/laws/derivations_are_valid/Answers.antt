use Rattle.soqe_flow.proofs.Validity.{done-valid, stop-valid, done-sound}
use Rattle.soqe_flow.proofs.laws.derivations_are_valid.Goals as goal

pub returns-clause-done : goal.returns-clause-done
returns-clause-done c = done-valid

pub returns-clause-stopped : goal.returns-clause-stopped
returns-clause-stopped c = stop-valid

pub returns-clause-sound : goal.returns-clause-sound
returns-clause-sound c = done-sound
