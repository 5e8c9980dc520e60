use Rattle.std.proofs.Common.{◌∙◌, cond, true, false}
use Rattle.soqe_form.specs.FreeVars.{is_among}
use Rattle.soqe_number.specs.Marks.{marked}
use Rattle.soqe_psub.proofs.FreshNames.{own-marks}
use Rattle.soqe_psub.proofs.fresh_names.mark_own.Goals as goal

pub returns : goal.returns
returns c =
    own-marks c.args.params.now c.args.body.now c.new-marks.result c.mark_each.new.marks c.mark_each-2.new.marks c.new-marks.ensures
    (c.in_ok-mark_each.ensures ∙ (λ i n. cond (is_among (c.as_slice.ensures i) n) true (marked c.new-marks.result n))
    ∙ (λ i n. cond (is_among (c.in_ok-vars.ensures i) n) true (marked c.new-marks.result n)))
    (c.in_ok-mark_each-2.ensures ∙ (λ i n. cond (is_among (c.as_slice-2.ensures i) n) false (marked c.mark_each.new.marks n)))
