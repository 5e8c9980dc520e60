use Rattle.std.proofs.Common.{◌∙◌, ap}
use Rattle.soqe_dls.specs.Parts.{is_conjunction}
use Rattle.soqe_dls.proofs.FoldedForms.{conjunction-default}
use Rattle.soqe_dls.proofs.taking.sides.Goals as goal

pub unreachable-requires : goal.unreachable-requires
unreachable-requires c = conjunction-default c.into_inner.result (ap is_conjunction c.into_inner.ensures ∙ c.requires) c.in_default.not-And
