use Rattle.std.proofs.Common.{◌∙◌, ap}
use Rattle.soqe_dls.specs.Parts.{is_existential}
use Rattle.soqe_dls.proofs.FoldedForms.{existential-default}
use Rattle.soqe_dls.proofs.taking.below.Goals as goal

pub unreachable-requires : goal.unreachable-requires
unreachable-requires c = existential-default c.into_inner.result (ap is_existential c.into_inner.ensures ∙ c.requires) c.in_default.not-Ex
