use Rattle.std.proofs.Common.{◌∙◌, ap}
use Rattle.soqe_number.specs.Updates.{changed}
use Rattle.soqe_number.specs.Counts.{counted}
use Rattle.soqe_number.proofs.Counted.{counted-set}
use Rattle.soqe_number.proofs.counts.Counts.set.Goals as goal

pub returns : goal.returns
returns c =
    counted-set c.self.inside.counts c.set.new.self c.args.n c.args.count c.in_ok-set.ensures
    ∙ ap (λ m. changed (counted m) c.args.n c.args.count) c.self.view_is
