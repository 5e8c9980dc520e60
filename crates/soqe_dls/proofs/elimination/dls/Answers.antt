use Rattle.std.proofs.lemmas.Result.{IfOk-weaker}
use Rattle.soqe_dls.specs.Runs.{IsAnswer}
use Rattle.soqe_dls.proofs.RunTruth.{ends-true}
use Rattle.soqe_dls.proofs.elimination.dls.Goals as goal

pub returns-clause-exact : goal.returns-clause-exact
returns-clause-exact c = IfOk-weaker c.run.result _ _
    (λ r h. record { cases = c.in_ok-cases.cases; are = c.in_ok-cases.ensures.exact; ends = h })
    c.run.ensures

pub returns-clause-truth : goal.returns-clause-truth
returns-clause-truth c = IfOk-weaker c.run.result _ _
    (λ r h.
    let answer : IsAnswer c.args.keep.now c.args.pred.now c.args.form.now r = record { cases = c.in_ok-cases.cases; are = c.in_ok-cases.ensures.exact; ends = h } in
    ends-true c.args.keep.now c.args.pred.now c.args.form.now r answer)
    c.run.ensures
