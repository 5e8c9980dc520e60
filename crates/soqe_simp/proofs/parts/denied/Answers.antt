use Rattle.std.proofs.Common.{◌∙◌, ap}
use Rattle.soqe_simp.specs.Stepped.{is_negation}
use Rattle.soqe_simp.proofs.Signs.{negation-default}
use Rattle.soqe_simp.proofs.parts.denied.Goals as goal

pub unreachable-requires : goal.unreachable-requires
unreachable-requires c = negation-default c.into_inner.result (ap is_negation c.into_inner.ensures ∙ c.requires) c.in_default.not-Not
