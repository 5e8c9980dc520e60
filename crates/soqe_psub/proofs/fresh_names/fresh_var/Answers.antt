use Rattle.std.proofs.Common.{◌∙◌, cond, true}
use Rattle.soqe_form.specs.FreeVars.{is_among}
use Rattle.soqe_number.specs.Marks.{marked}
use Rattle.soqe_psub.proofs.FreshNames.{least-var}
use Rattle.soqe_psub.proofs.fresh_names.fresh_var.Goals as goal

pub returns : goal.returns
returns c =
    least-var c.args.params.now c.args.body.now c.args.y c.args.form.now _ _ _ _ _ c.least_unmarked.result c.new-used.ensures
    (c.in_ok-mark_each.ensures ∙ (λ i n. cond (is_among (c.as_slice.ensures i) n) true (marked c.new-used.result n)))
    c.in_ok-mark_form.ensures c.in_ok-set.ensures c.in_ok-mark_form-2.ensures c.least_unmarked.ensures
