use Rattle.soqe_form.proofs.Agree.{truth-agree}
use Rattle.soqe_form.proofs.Matches.{truth-match}
use Rattle.soqe_form.proofs.laws.truth_depends.Goals as goal

pub returns-clause-free : goal.returns-clause-free
returns-clause-free c = truth-agree

pub returns-clause-range : goal.returns-clause-range
returns-clause-range c = truth-match
