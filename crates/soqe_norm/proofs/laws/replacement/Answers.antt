use Rattle.soqe_norm.proofs.Replaced.{truth-valued, loses-predicate, predicate-gone, gains-no-variable, gains-no-block}
use Rattle.soqe_norm.proofs.laws.replacement.Goals as goal

pub returns-clause-truth : goal.returns-clause-truth
returns-clause-truth c = λ w m v f. truth-valued m v w f

pub returns-clause-predicates : goal.returns-clause-predicates
returns-clause-predicates c = λ n m v f. loses-predicate m v n f

pub returns-clause-variables : goal.returns-clause-variables
returns-clause-variables c = λ n m v f. gains-no-variable m v n f

pub returns-clause-blocks : goal.returns-clause-blocks
returns-clause-blocks c = gains-no-block

pub returns-clause-gone : goal.returns-clause-gone
returns-clause-gone c = predicate-gone
