use Rattle.soqe_flow.proofs.Unique.{one-derivation}
use Rattle.soqe_flow.proofs.laws.one_derivation.Goals as goal

pub returns : goal.returns
returns c = one-derivation
