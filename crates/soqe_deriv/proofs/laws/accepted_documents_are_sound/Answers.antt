use Rattle.soqe_deriv.proofs.Sound.{accepted_sound}
use Rattle.soqe_deriv.proofs.laws.accepted_documents_are_sound.Goals as goal

pub returns : goal.returns
returns c = accepted_sound
