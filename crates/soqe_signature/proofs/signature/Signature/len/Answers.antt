use Rattle.soqe_signature.proofs.Kept.{HasDistinctNames-kept}
use Rattle.soqe_signature.proofs.signature.Signature.len.Goals as goal

pub returns-clause-distinct : goal.returns-clause-distinct
returns-clause-distinct c = HasDistinctNames-kept c.self.inside.names.entries c.args.self.now c.self.view_is c.len.ensures.unique
