-- What stands after a block has fewer quantifiers of predicates, so a derivation ends: what takes the block's place has none, and
-- neither tidy numbers nor the simplifier bring one in.
use Rattle.std.proofs.Common.{◌≡◌, ℕ, ◌<◌, ◌≤◌, Bool, true, false, not, List, Some, ◌∙◌, arith}
use Rattle.soqe_number.proofs.Choices.{by_cases}
use Rattle.soqe_form.specs.declared.form.Form.{Form}
use Rattle.soqe_form.specs.declared.form.Block.{Block}
use Rattle.soqe_form.specs.Places.{first_block, put_at, has_blocks, count_blocks}
use Rattle.soqe_tidy.specs.Tidy.{tidy}
use Rattle.soqe_form.proofs.BlockCounts.{count-none, none-counted, blocks-by_count, fewer-blocks}
use Rattle.soqe_tidy.proofs.TidiedBlocks.{count-tidy}
use Rattle.soqe_form.proofs.FirstBlocks.{block-bare}
use Rattle.soqe_simp.specs.Simplified.{simplify}
use Rattle.soqe_simp.proofs.Simplifies.{simplify-keeps}
use Rattle.soqe_norm.specs.Nnf.{nnf}
use Rattle.soqe_norm.specs.Valued.{valued}
use Rattle.soqe_norm.proofs.Counts.{count-valued}
use Rattle.soqe_norm.proofs.Nnfs.{has_blocks-nnf}
use Rattle.soqe_ack.specs.declared.steps.DlsStep.{DlsStep}
use Rattle.soqe_dls.specs.declared.elimination.DlsEnd.TheVariants as end
use Rattle.soqe_dls.specs.Runs.{IsAnswer}
use Rattle.soqe_dls.proofs.RunBlocks.{answer-bare}
use Rattle.soqe_deriv.specs.Valid.{simplified}
use Rattle.soqe_flow.specs.Ordered.{replaced, closed, after_sign, after_block, normal, answered, closed_by}

count-simplified : (keep : List ℕ) (f : Form) → count_blocks (simplified keep f) ≤ count_blocks f
count-simplified keep f = omega (arith, count-tidy keep (simplify f), (simplify-keeps f).count)

bare-simplified : (keep : List ℕ) (f : Form) → has_blocks f ≡ false → has_blocks (simplified keep f) ≡ false
bare-simplified keep f h = none-counted (simplified keep f) (omega (arith, count-simplified keep f, count-none f h))

bare-tidy : (keep : List ℕ) (f : Form) → has_blocks f ≡ false → has_blocks (tidy keep f) ≡ false
bare-tidy keep f h = blocks-by_count f (tidy keep f) (count-tidy keep f) ∙ h

-- a formula without quantifiers of predicates takes the place of the first block
fewer-after : (keep : List ℕ) (f : Form) (b : Block) (by : Form) → first_block f ≡ Some b → has_blocks by ≡ false → count_blocks (after_block keep f b by) < count_blocks f
fewer-after keep f b by h bare = omega (arith, count-simplified keep (put_at b.place by f), fewer-blocks f b h by bare)

bare-closed : (keep : List ℕ) (b : Block) (v : Bool) → has_blocks b.body ≡ false → has_blocks (closed keep b v) ≡ false
bare-closed keep b v h =
    let form : Form = valued b.pred.num v b.body in
    bare-simplified keep (replaced keep b v) (bare-tidy keep form (blocks-by_count b.body form (count-valued b.pred.num v b.body) ∙ h))

-- a block whose predicate is replaced by a truth value
pub fewer-sign : (keep : List ℕ) (f : Form) (b : Block) (v : Bool) → first_block f ≡ Some b → count_blocks (after_sign keep f b v) < count_blocks f
fewer-sign keep f b v h = fewer-after keep f b (closed keep b v) h (bare-closed keep b v (block-bare f b h))

bare-normal : (keep : List ℕ) (b : Block) → has_blocks b.body ≡ false → has_blocks (normal keep b) ≡ false
bare-normal keep b h = bare-tidy keep (nnf (not b.exists) b.body) (has_blocks-nnf (not b.exists) b.body ∙ h)

bare-answered : (b : Block) (form : Form) → has_blocks form ≡ false → has_blocks (answered b form) ≡ false
bare-answered b form h = by_cases (λ g. has_blocks g ≡ false) b.exists form (nnf true form) (λ _. h) (λ _. has_blocks-nnf true form ∙ h)

-- a block by cases
pub fewer-cases : (keep : List ℕ) (f form : Form) (b : Block) (steps : List DlsStep) → first_block f ≡ Some b → IsAnswer keep b.pred (normal keep b) (end.Done steps form)
    → count_blocks (after_block keep f b (closed_by keep b form)) < count_blocks f
fewer-cases keep f form b steps h a =
    let bare : has_blocks form ≡ false = answer-bare keep b.pred (normal keep b) form steps a (bare-normal keep b (block-bare f b h)) in
    fewer-after keep f b (closed_by keep b form) h (bare-simplified keep (answered b form) (bare-answered b form bare))
