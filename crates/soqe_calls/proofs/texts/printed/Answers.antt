use Rattle.std.proofs.Common.{◌∙◌, ap}
use Rattle.soqe_show.specs.Dress.{problem_text}
use Rattle.soqe_calls.proofs.texts.printed.Goals as goal

pub returns : goal.returns
returns c = c.in_ok-text.ensures.text ∙ ap problem_text c.in_ok-problem.ensures
