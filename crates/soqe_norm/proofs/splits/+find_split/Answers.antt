use Rattle.std.proofs.Common.{◌∙◌, ap}
use Rattle.std.proofs.lemmas.Result.{IfOk-weaker}
use Rattle.soqe_norm.specs.Splits.{split_cases}
use Rattle.soqe_norm.proofs.CaseSplits.{not-split}
use Rattle.soqe_norm.proofs.splits.+find_split.Goals as goal

pub returns-in_default : goal.returns-in_default
returns-in_default t c =
    IfOk-weaker c.undivided.result _ _
    (λ r h. h ∙ not-split c.args.pred.now c.into_inner.result c.in_default.not-And c.in_default.not-Or c.in_default.not-Ex
    ∙ ap (split_cases c.args.pred.now) c.into_inner.ensures)
    c.undivided.ensures
