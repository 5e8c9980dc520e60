-- The lines that are written so far lead to a derivation of the goal with whatever lines follow from what stands.
use Rattle.std.proofs.Common.{◌≡◌, ◌<◌, ℕ, Bool, List, [], ◌∷◌, ◌++◌, Some, None, refl, sym, ◌∙◌, ap, subst, append_assoc}
use Rattle.soqe_form.specs.declared.form.Form.{Form}
use Rattle.soqe_form.specs.declared.form.Block.{Block}
use Rattle.soqe_form.specs.Places.{first_block, count_blocks}
use Rattle.soqe_norm.specs.Valued.{value_for}
use Rattle.soqe_ack.specs.declared.steps.DlsStep.{DlsStep}
use Rattle.soqe_dls.specs.declared.elimination.DlsEnd.TheVariants as end
use Rattle.soqe_dls.specs.Runs.{IsAnswer}
use Rattle.soqe_deriv.specs.declared.document.Line.{Line}
use Rattle.soqe_deriv.specs.declared.document.Line.TheVariants as line
use Rattle.soqe_deriv.specs.declared.document.Stop.{Stop}
use Rattle.soqe_deriv.specs.declared.document.Stop.TheVariants as stop
use Rattle.soqe_flow.specs.declared.derivation.Wanted.{Wanted}
use Rattle.soqe_flow.specs.declared.derivation.Wanted.TheVariants as wanted
use Rattle.soqe_flow.specs.declared.blocks.BlockEnd.TheVariants as block
use Rattle.soqe_flow.specs.Ordered.{Result, Stops, Follows, result, sign, mixed, dls, not_reached, stands_with, closed, sign_lines, normal, closed_by, cases_lines, lost_lines}
use Rattle.soqe_flow.proofs.FewerBlocks.{fewer-sign, fewer-cases}
use Rattle.soqe_flow.specs.Running.{Derives, HasRun, Leads, WritesBlock, IsMixed, mixed_lines}

-- of a formula without blocks
pub run-bare : (keep : List ℕ) (w : Wanted) (g : Form) → first_block g ≡ None → HasRun keep w g (line.Start g ∷ line.Result g ∷ line.End ∷ []) None
run-bare keep w g h = (g, record { lines = line.Result g ∷ line.End ∷ []; are = refl; follow = result h })

-- over the lines of the first block
pub leads-first : (keep : List ℕ) (w : Wanted) (g : Form) (place : List ℕ) (part : Form) (steps : List Line) → WritesBlock keep w g [] steps (block.Closed place part)
    → Leads keep w g (line.Start g ∷ steps) (stands_with keep g place part)
leads-first keep w g place part steps h ms e r =
    record { lines = steps ++ ms; are = refl; follow = subst (λ ls. Follows keep w g (ls ++ ms) e) (sym h.1) (h.2 ms e r) }

-- over the lines of a block
pub leads-on : (keep : List ℕ) (w : Wanted) (g f : Form) (place : List ℕ) (part : Form) (old new : List Line) → Leads keep w g old f
    → WritesBlock keep w f old new (block.Closed place part) → Leads keep w g new (stands_with keep f place part)
leads-on keep w g f place part old new k h ms e r =
    subst (λ ls. Derives keep w g ls e) (sym (append_assoc old h.0 ms) ∙ ap (λ ls. ls ++ ms) (sym h.1)) (k (h.0 ++ ms) e (h.2 ms e r))

-- to the stop of a block
pub leads-stop : (keep : List ℕ) (w : Wanted) (g f : Form) (s : Stop) (old new : List Line) → Leads keep w g old f → WritesBlock keep w f old new (block.Stopped s)
    → HasRun keep w g new (Some s)
leads-stop keep w g f s old new k h = subst (λ ls. Derives keep w g ls (Stops s)) (sym h.1) (k h.0 (Stops s) h.2)

-- to the result
pub leads-result : (keep : List ℕ) (w : Wanted) (g f : Form) (all : List Line) → first_block f ≡ None → Leads keep w g all f
    → HasRun keep w g (all ++ line.Result f ∷ line.End ∷ []) None
leads-result keep w g f all h k = (f, k (line.Result f ∷ line.End ∷ []) (Result f) (result h))

-- ---- the lines of one block

pub writes-sign : (keep : List ℕ) (f part : Form) (old new : List Line) (b : Block) (v : Bool) → first_block f ≡ Some b → value_for b ≡ Some v
    → new ≡ old ++ sign_lines keep b v → part ≡ closed keep b v → WritesBlock keep wanted.Sign f old new (block.Closed b.place part)
writes-sign keep f part old new b v h q e n = (
  sign_lines keep b v,
  e,
  λ ms x r. sign h q (subst (λ p. Follows keep wanted.Sign (stands_with keep f b.place p) ms x) n r),
  subst (λ p. count_blocks (stands_with keep f b.place p) < count_blocks f) (sym n) (fewer-sign keep f b v h),
)

pub writes-mixed : (keep : List ℕ) (f : Form) (old new : List Line) (b : Block) (s : Stop) → first_block f ≡ Some b → IsMixed b s
    → new ≡ old ++ mixed_lines b s → WritesBlock keep wanted.Sign f old new (block.Stopped s)
writes-mixed keep f old new b (stop.Mixed i j) h m e = (mixed_lines b (stop.Mixed i j), e, mixed h m.0 m.1)
writes-mixed keep f old new b (stop.NotReached n) h m e = absurd m

pub writes-cases : (keep : List ℕ) (f form part : Form) (old mid new : List Line) (b : Block) (steps : List DlsStep) → first_block f ≡ Some b
    → IsAnswer keep b.pred (normal keep b) (end.Done steps form) → mid ≡ old ++ cases_lines b (normal keep b) steps
    → new ≡ mid ++ line.Close part ∷ [] → part ≡ closed_by keep b form → WritesBlock keep wanted.Dls f old new (block.Closed b.place part)
writes-cases keep f form part old mid new b steps h a e k n =
    let ls : List Line = cases_lines b (normal keep b) steps in
    let close : List Line = line.Close (closed_by keep b form) ∷ [] in (
      ls ++ close,
      k ∙ ap (λ p. mid ++ line.Close p ∷ []) n ∙ ap (λ ms. ms ++ close) e ∙ append_assoc old ls close,
      λ ms x r. subst (λ ns. Follows keep wanted.Dls f ns x) (sym (append_assoc ls close ms))
          (dls h a (subst (λ p. Follows keep wanted.Dls (stands_with keep f b.place p) ms x) n r)),
      subst (λ p. count_blocks (stands_with keep f b.place p) < count_blocks f) (sym n) (fewer-cases keep f form b steps h a),
    )

pub writes-lost : (keep : List ℕ) (f : Form) (old mid new : List Line) (b : Block) (steps : List DlsStep) (n : ℕ) → first_block f ≡ Some b
    → IsAnswer keep b.pred (normal keep b) (end.NotReached steps n) → mid ≡ old ++ cases_lines b (normal keep b) steps
    → new ≡ mid ++ lost_lines n → WritesBlock keep wanted.Dls f old new (block.Stopped (stop.NotReached n))
writes-lost keep f old mid new b steps n h a e k =
    let ls : List Line = cases_lines b (normal keep b) steps in
    (ls ++ lost_lines n, k ∙ ap (λ ms. ms ++ lost_lines n) e ∙ append_assoc old ls (lost_lines n), not_reached h a)
