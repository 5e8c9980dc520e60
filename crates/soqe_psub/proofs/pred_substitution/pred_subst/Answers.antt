use Rattle.soqe_psub.proofs.PredSubLaws.{truth_of, sorts_of, gone_of, gone_sorted_of, no_blocks_of}
use Rattle.soqe_psub.proofs.pred_substitution.pred_subst.Goals as goal

pub returns-clause-exact : goal.returns-clause-exact
returns-clause-exact c = c.in_ok-form.ensures

pub returns-clause-truth : goal.returns-clause-truth
returns-clause-truth c = truth_of c.args.pred.now c.args.params.now c.args.body.now c.args.form.now c.in_ok-form.form (returns-clause-exact c)

pub returns-clause-sorted : goal.returns-clause-sorted
returns-clause-sorted c = sorts_of c.args.pred.now c.args.params.now c.args.body.now c.args.form.now c.in_ok-form.form (returns-clause-exact c)

pub returns-clause-gone : goal.returns-clause-gone
returns-clause-gone c = gone_of c.args.pred.now c.args.params.now c.args.body.now c.args.form.now c.in_ok-form.form (returns-clause-exact c)

pub returns-clause-gone_where_sorted : goal.returns-clause-gone_where_sorted
returns-clause-gone_where_sorted c = gone_sorted_of c.args.pred.now c.args.params.now c.args.body.now c.args.form.now c.in_ok-form.form (returns-clause-exact c)

pub returns-clause-no_blocks : goal.returns-clause-no_blocks
returns-clause-no_blocks c = no_blocks_of c.args.pred.now c.args.params.now c.args.body.now c.args.form.now c.in_ok-form.form (returns-clause-exact c)
