use Rattle.std.proofs.Common.{◌∙◌, ap}
use Rattle.soqe_signature.specs.Declarations.{place_of}
use Rattle.soqe_signature.proofs.Kept.{position-declarations}
use Rattle.soqe_signature.proofs.signature.Signature.place.Goals as goal

pub returns : goal.returns
returns c = c.get_index_of.ensures.index ∙ position-declarations c.args.name.now c.self.inside.names.entries ∙ ap (λ ds. place_of ds c.args.name.now) c.self.view_is
