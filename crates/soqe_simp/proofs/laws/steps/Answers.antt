use Rattle.soqe_simp.proofs.Steps.{step-keeps}
use Rattle.soqe_simp.proofs.laws.steps.Goals as goal

pub returns : goal.returns
returns c = record { kept = step-keeps }
