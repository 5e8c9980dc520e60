use Rattle.std.proofs.Common.{◌∙◌, ap}
use Rattle.soqe_simp.specs.Chains.{is_quantified}
use Rattle.soqe_simp.proofs.Quantified.{quantified-default}
use Rattle.soqe_simp.proofs.chains.open.Goals as goal

pub unreachable-requires : goal.unreachable-requires
unreachable-requires c = quantified-default c.into_inner.result (ap is_quantified c.into_inner.ensures ∙ c.requires) c.in_default.not-All c.in_default.not-Ex
