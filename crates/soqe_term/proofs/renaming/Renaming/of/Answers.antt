use Rattle.std.proofs.Common.{◌∙◌, ap}
use Rattle.std.specs.Option.{unwrap_or}
use Rattle.soqe_term.specs.Renumber.{renames}
use Rattle.soqe_term.proofs.renaming.Renaming.of.Goals as goal

pub returns : goal.returns
unfolding renames
returns c = c.unwrap_or.ensures ∙ ap (λ o. unwrap_or o c.args.n) c.get.ensures ∙ ap (λ m. renames m c.args.n) c.self.view_is
