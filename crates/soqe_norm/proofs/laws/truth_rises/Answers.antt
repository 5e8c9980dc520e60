use Rattle.soqe_norm.proofs.Risen.{truth-rises}
use Rattle.soqe_norm.proofs.laws.truth_rises.Goals as goal

pub returns : goal.returns
returns c = λ s m f. truth-rises m f s
