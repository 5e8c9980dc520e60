use Rattle.std.proofs.Common.{◌∙◌, ◌+◌, ap}
use Rattle.soqe_number.specs.Updates.{changed}
use Rattle.soqe_number.specs.Counts.{counted}
use Rattle.soqe_number.proofs.Counted.{counts-one}
use Rattle.soqe_number.proofs.recent.Recent.add.Goals as goal

pub returns : goal.returns
returns c =
    counts-one _ _ c.args.n c.args.more
    (c.in_ok-set.ensures ∙ ap (changed (counted c.args.self.now) c.args.n) (c.in_ok-count.ensures ∙ ap (λ k. c.args.more + k) c.of.ensures))
