-- What the result of replacing a predicate says, from the exact result.
use Rattle.std.proofs.Common.{◌≡◌, eqb, length, List, ◌∙◌, ap, arith}
use Rattle.soqe_term.specs.declared.term.Var.{Var}
use Rattle.soqe_form.specs.declared.form.Pred.{Pred}
use Rattle.soqe_form.specs.declared.form.Form.{Form}
use Rattle.soqe_form.specs.FreePreds.{has_free, has_atom}
use Rattle.soqe_form.specs.Mentions.{depth}
use Rattle.soqe_form.specs.Places.{has_blocks}
use Rattle.soqe_form.specs.Sorted.{sorted}
use Rattle.soqe_form.specs.Truth.{truth}
use Rattle.soqe_psub.specs.PredSubst.{IsPredSub, pred_sub}
use Rattle.soqe_psub.specs.PredSubstLaws.{HasTruthOfPredSub, PredSubKeepsSorts, LeavesNone, LeavesNoneWhereSorted, AddsNoBlocks}
use Rattle.soqe_psub.proofs.PredTruth.{truth-pred_sub}
use Rattle.soqe_psub.proofs.PredSorts.{sorted-pred_sub}
use Rattle.soqe_psub.proofs.PredGone.{gone, gone-sorted, has_blocks-pred_sub}

module _ (q : Pred) (xs : List Var) (b f r : Form) (is : IsPredSub q xs b f r) where
  equal : r ≡ pred_sub (depth f) q xs b f
  equal = is.by (depth f) (omega arith)

  pub truth_of : HasTruthOfPredSub q xs b f r
  truth_of w = ap (truth w) equal ∙ truth-pred_sub q xs b (depth f) w f (omega arith)

  pub sorts_of : PredSubKeepsSorts q xs b f r
  sorts_of e body o = ap (sorted e) equal ∙ sorted-pred_sub q xs b (depth f) e f (omega arith) (λ _. body) o

  pub gone_of : LeavesNone q xs b r
  gone_of lacks = ap (has_atom q (λ n. eqb n (length xs))) equal ∙ gone (depth f) q xs b f (omega arith) lacks

  pub gone_sorted_of : LeavesNoneWhereSorted q xs b f r
  gone_sorted_of lacks e o = ap (has_free q) equal ∙ gone-sorted (depth f) q xs b f (omega arith) lacks e o

  pub no_blocks_of : AddsNoBlocks b f r
  no_blocks_of bare o = ap has_blocks equal ∙ has_blocks-pred_sub q xs b bare (depth f) f (omega arith) o
