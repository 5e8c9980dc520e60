use Rattle.std.proofs.Common.{◌∙◌, ap}
use Rattle.soqe_simp.specs.Stepped.{is_implication}
use Rattle.soqe_simp.proofs.Signs.{implication-default}
use Rattle.soqe_simp.proofs.parts.implication_parts.Goals as goal

pub unreachable-requires : goal.unreachable-requires
unreachable-requires c = implication-default c.into_inner.result (ap is_implication c.into_inner.ensures ∙ c.requires) c.in_default.not-Imp
