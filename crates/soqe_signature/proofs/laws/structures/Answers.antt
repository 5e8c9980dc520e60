use Rattle.soqe_signature.proofs.Structures.{fits-world}
use Rattle.soqe_signature.proofs.laws.structures.Goals as goal

pub returns : goal.returns
returns c = fits-world
