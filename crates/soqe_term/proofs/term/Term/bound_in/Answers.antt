use Rattle.std.proofs.lemmas.Result.{IfOk-weaker}
use Rattle.soqe_term.proofs.Replaced.{has_value_of_bound, keeps_sort_of_bound}
use Rattle.soqe_term.proofs.term.Term.bound_in.Goals as goal

pub returns-clause-value : goal.returns-clause-value
returns-clause-value c = IfOk-weaker c.bind.result _ _ (has_value_of_bound c.args.binding.now c.args.self.now) c.bind.ensures

pub returns-clause-sorted : goal.returns-clause-sorted
returns-clause-sorted c = IfOk-weaker c.bind.result _ _ (keeps_sort_of_bound c.args.binding.now c.args.self.now) c.bind.ensures
