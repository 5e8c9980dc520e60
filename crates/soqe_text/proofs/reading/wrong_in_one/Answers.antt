use Rattle.std.proofs.Common.{◌∙◌, ap, sym}
use Rattle.soqe_syntax.specs.Shapes.{declared_view}
use Rattle.soqe_text.specs.Uses.{wrong_in_one}
use Rattle.soqe_text.proofs.reading.wrong_in_one.Goals as goal

pub returns-in-Fun : goal.returns-in-Fun
returns-in-Fun c = c.wrong_in_fun.ensures ∙ ap (λ i. wrong_in_one c.args.bytes.now c.args.sig.now (declared_view i)) (sym c.in-Fun.is)

pub returns-in-Pred : goal.returns-in-Pred
returns-in-Pred c = c.no_sort_in.ensures ∙ ap (λ i. wrong_in_one c.args.bytes.now c.args.sig.now (declared_view i)) (sym c.in-Pred.is)
