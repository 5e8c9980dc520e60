use Rattle.std.proofs.Common.{◌∙◌, ap}
use Rattle.std.specs.Option.{unwrap_or}
use Rattle.soqe_number.specs.Counts.{counted}
use Rattle.soqe_number.proofs.counts.Counts.of.Goals as goal

pub returns : goal.returns
unfolding counted
returns c = c.unwrap_or.ensures ∙ ap (λ o. unwrap_or o 0) c.get.ensures ∙ ap (λ m. counted m c.args.n) c.self.view_is
