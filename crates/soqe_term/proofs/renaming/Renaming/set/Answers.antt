use Rattle.std.proofs.Common.{◌∙◌, ap}
use Rattle.soqe_number.specs.Updates.{changed}
use Rattle.soqe_term.specs.Renumber.{renames}
use Rattle.soqe_term.proofs.Renumbered.{renames-set}
use Rattle.soqe_term.proofs.renaming.Renaming.set.Goals as goal

pub returns : goal.returns
returns c =
    renames-set c.self.inside.numbers c.set.new.self c.args.n c.args.to c.in_ok-set.ensures
    ∙ ap (λ m. changed (renames m) c.args.n c.args.to) c.self.view_is
