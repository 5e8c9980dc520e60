use Rattle.std.proofs.Common.{◌∙◌, sym, ap}
use Rattle.soqe_number.specs.Updates.{changed}
use Rattle.soqe_number.specs.Counts.{counted}
use Rattle.soqe_number.proofs.Counted.{counted-again, counted-turned}
use Rattle.soqe_number.proofs.recent.Recent.set.Goals as goal

pub returns-then-n-self : goal.returns-then-n-self
returns-then-n-self c =
    let at = c.self.inside in
    counted-again at.num c.args.count at.count at.others ∙ ap (λ l. changed (counted l) at.num c.args.count) c.self.view_is
    ∙ ap (λ k. changed (counted c.args.self.now) k c.args.count) (sym c.if-n-self.true)

pub returns : goal.returns
returns c =
    let at = c.self.inside in
    counted-turned c.args.n c.args.count at.num at.count at.others c.set.new.self c.in_ok-set.ensures ∙ ap (λ l. changed (counted l) c.args.n c.args.count) c.self.view_is
