use Rattle.std.proofs.Common.{◌∙◌, ap}
use Rattle.soqe_number.specs.Updates.{changed}
use Rattle.soqe_number.specs.Marks.{marked}
use Rattle.soqe_number.proofs.Marked.{marked-set}
use Rattle.soqe_number.proofs.marks.Marks.set.Goals as goal

pub returns : goal.returns
returns c =
    marked-set c.self.inside.marks c.set.new.self c.args.n c.value_of.result c.args.mark c.value_of.ensures c.in_ok-set.ensures
    ∙ ap (λ m. changed (marked m) c.args.n c.args.mark) c.self.view_is
