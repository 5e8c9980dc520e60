use Rattle.std.proofs.lemmas.Result.{IfOk-weaker}
use Rattle.soqe_text.proofs.SpelledSorted.{spelled_sorted}
use Rattle.soqe_text.proofs.reading.read_problem.Goals as goal

pub returns-in-Ok-clause-sorted : goal.returns-in-Ok-clause-sorted
returns-in-Ok-clause-sorted c = IfOk-weaker c.problem_of.result _ _ (spelled_sorted c.args.bytes.now) c.problem_of.ensures.found
