use Rattle.soqe_norm.proofs.Prenexes.{truth-prenexed, is_prenex-prenexed}
use Rattle.soqe_norm.proofs.PrenexNames.{sorted-prenexed, free-prenexed, free_pred-prenexed, has_blocks-prenexed}
use Rattle.soqe_norm.proofs.prenex.prenex_laws.Goals as goal

pub returns-clause-truth : goal.returns-clause-truth
returns-clause-truth c = truth-prenexed

pub returns-clause-form : goal.returns-clause-form
returns-clause-form c = is_prenex-prenexed

pub returns-clause-sorts : goal.returns-clause-sorts
returns-clause-sorts c = sorted-prenexed

pub returns-clause-variables : goal.returns-clause-variables
returns-clause-variables c = free-prenexed

pub returns-clause-predicates : goal.returns-clause-predicates
returns-clause-predicates c = free_pred-prenexed

pub returns-clause-blocks : goal.returns-clause-blocks
returns-clause-blocks c = has_blocks-prenexed
