use Rattle.soqe_norm.proofs.Aparts.{same-apart, truth-apart, sorted-apart, free-apart, free_pred-apart, is_nnf-apart, has_blocks-apart, distinct-apart, kept-apart, bound-apart}
use Rattle.soqe_norm.proofs.apart.apart_laws.Goals as goal

pub returns-clause-same : goal.returns-clause-same
returns-clause-same c = same-apart

pub returns-clause-truth : goal.returns-clause-truth
returns-clause-truth c = truth-apart

pub returns-clause-sorts : goal.returns-clause-sorts
returns-clause-sorts c = sorted-apart

pub returns-clause-distinct : goal.returns-clause-distinct
returns-clause-distinct c = distinct-apart

pub returns-clause-avoids : goal.returns-clause-avoids
returns-clause-avoids c = kept-apart

pub returns-clause-bound : goal.returns-clause-bound
returns-clause-bound c = bound-apart

pub returns-clause-variables : goal.returns-clause-variables
returns-clause-variables c = free-apart

pub returns-clause-predicates : goal.returns-clause-predicates
returns-clause-predicates c = free_pred-apart

pub returns-clause-normal : goal.returns-clause-normal
returns-clause-normal c = is_nnf-apart

pub returns-clause-blocks : goal.returns-clause-blocks
returns-clause-blocks c = has_blocks-apart
