use Rattle.std.proofs.Common.{◌∙◌, ap}
use Rattle.std.proofs.lemmas.Result.{IfOk-weaker}
use Rattle.soqe_norm.specs.Splits.{seen}
use Rattle.soqe_norm.proofs.CaseSplits.{cases-seen}
use Rattle.soqe_norm.proofs.cases.cases_there.Goals as goal

pub returns-in-Splits : goal.returns-in-Splits
returns-in-Splits c =
    IfOk-weaker c.cases_of_split.result _ _
    (λ r h. h ∙ cases-seen c.args.pred.now c.args.form _ _ c.in_ok-split.ensures (ap seen c.in-Splits.is))
    c.cases_of_split.ensures

pub returns-in-Lacks : goal.returns-in-Lacks
returns-in-Lacks c =
    IfOk-weaker c.one_case.result _ _
    (λ r h. h ∙ cases-seen c.args.pred.now c.args.form _ _ c.in_ok-split.ensures (ap seen c.in-Lacks.is))
    c.one_case.ensures
