use Rattle.std.proofs.Common.{◌∙◌, ap}
use Rattle.soqe_number.specs.Unused.{member}
use Rattle.soqe_number.proofs.Ordered.{contains-member, not_above}
use Rattle.soqe_number.proofs.num_order.NumOrder.first.Goals as goal

pub returns-in-Some-clause-least : goal.returns-in-Some-clause-least
returns-in-Some-clause-least c =
    λ m e. not_above _ m (c.in-Some.ensures.least m (contains-member m c.self.inside.numbers.keys ∙ ap (member m) c.self.view_is ∙ e))
