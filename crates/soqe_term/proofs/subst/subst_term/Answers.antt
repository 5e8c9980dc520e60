use Rattle.std.proofs.lemmas.Result.{IfOk-weaker}
use Rattle.soqe_term.proofs.Replaced.{has_value_of_replaced, keeps_sort}
use Rattle.soqe_term.proofs.subst.subst_term.Goals as goal

pub returns-clause-value : goal.returns-clause-value
returns-clause-value c = IfOk-weaker c.replace.result _ _ (has_value_of_replaced c.args.x.num c.args.by.now c.args.term.now) c.replace.ensures

pub returns-clause-sorted : goal.returns-clause-sorted
returns-clause-sorted c = IfOk-weaker c.replace.result _ _ (λ r. keeps_sort c.args.x c.args.by.now c.args.term.now r c.requires) c.replace.ensures
