use Rattle.soqe_flow.proofs.Validity.{ends-sound}
use Rattle.soqe_flow.proofs.derivation.elim.Goals as goal

pub returns-in-Ok-clause-sound : goal.returns-in-Ok-clause-sound
returns-in-Ok-clause-sound c = ends-sound c.args.wanted c.args.wanted c.args.problem c.ended.result c.requires c.ended.ensures
