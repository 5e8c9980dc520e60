use Rattle.soqe_norm.proofs.Nnfs.{truth-nnf, is_nnf-nnf, sorted-nnf, free-nnf, free_pred-nnf, has_blocks-nnf}
use Rattle.soqe_norm.proofs.nnf.nnf_laws.Goals as goal

pub returns-clause-truth : goal.returns-clause-truth
returns-clause-truth c = truth-nnf

pub returns-clause-normal : goal.returns-clause-normal
returns-clause-normal c = is_nnf-nnf

pub returns-clause-sorts : goal.returns-clause-sorts
returns-clause-sorts c = sorted-nnf

pub returns-clause-variables : goal.returns-clause-variables
returns-clause-variables c = free-nnf

pub returns-clause-predicates : goal.returns-clause-predicates
returns-clause-predicates c = free_pred-nnf

pub returns-clause-blocks : goal.returns-clause-blocks
returns-clause-blocks c = has_blocks-nnf
