use Rattle.soqe_run.proofs.OneAnswer.{one-answer}
use Rattle.soqe_run.proofs.laws.answers.Goals as goal

pub returns : goal.returns
returns c = one-answer c.one_spelled.ensures.one c.one_spelled.ensures.alone c.one_spelled.ensures.reason
