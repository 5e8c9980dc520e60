use Rattle.std.proofs.Common.{◌∙◌, sym, ap}
use Rattle.soqe_number.specs.Counts.{counted}
use Rattle.soqe_number.proofs.Counted.{counted-here, counted-behind}
use Rattle.soqe_number.proofs.recent.Recent.of.Goals as goal

pub returns-then-n-self : goal.returns-then-n-self
returns-then-n-self c =
    sym (counted-here c.args.n c.self.inside.num c.self.inside.count c.self.inside.others c.if-n-self.true) ∙ ap (λ l. counted l c.args.n) c.self.view_is

pub returns-else-n-self : goal.returns-else-n-self
returns-else-n-self c =
    c.of.ensures ∙ sym (counted-behind c.args.n c.self.inside.num c.self.inside.count c.self.inside.others c.if-n-self.false) ∙ ap (λ l. counted l c.args.n) c.self.view_is
