use Rattle.soqe_psub.proofs.PredTruth.{truth-pred_sub}
use Rattle.soqe_psub.proofs.PredSorts.{sorted-pred_sub}
use Rattle.soqe_psub.proofs.PredGone.{gone, gone-sorted, has_blocks-pred_sub}
use Rattle.soqe_psub.proofs.laws.pred_substitutions.Goals as goal

pub returns-clause-truth : goal.returns-clause-truth
returns-clause-truth c = λ k q xs b f d w. truth-pred_sub q xs b k w f d

pub returns-clause-sorted : goal.returns-clause-sorted
returns-clause-sorted c = λ k q xs b f d e body o. sorted-pred_sub q xs b k e f d (λ _. body) o

pub returns-clause-gone : goal.returns-clause-gone
returns-clause-gone c = gone

pub returns-clause-gone_where_sorted : goal.returns-clause-gone_where_sorted
returns-clause-gone_where_sorted c = gone-sorted

pub returns-clause-no_blocks : goal.returns-clause-no_blocks
returns-clause-no_blocks c = λ k q xs b f d bare o. has_blocks-pred_sub q xs b bare k f d o
