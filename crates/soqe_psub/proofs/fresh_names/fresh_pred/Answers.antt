use Rattle.soqe_psub.proofs.FreshNames.{least-pred}
use Rattle.soqe_psub.proofs.fresh_names.fresh_pred.Goals as goal

pub returns : goal.returns
returns c =
    least-pred c.args.body.now c.args.p.now c.args.form.now _ _ _ _ c.least_unmarked.result c.new-used.ensures c.in_ok-mark_preds.ensures c.in_ok-set.ensures
    c.in_ok-mark_preds-2.ensures c.least_unmarked.ensures
