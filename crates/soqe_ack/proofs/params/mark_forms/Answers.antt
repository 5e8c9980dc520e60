use Rattle.std.proofs.Common.{◌∙◌, subst}
use Rattle.soqe_form.specs.declared.form.Form.{Form}
use Rattle.soqe_number.specs.Marks.{Adds}
use Rattle.soqe_form.specs.Mentions.{mentions}
use Rattle.soqe_ack.proofs.ParameterChoice.{adds_form}
use Rattle.soqe_ack.proofs.params.mark_forms.Goals as goal

pub loop-form-preserved : goal.loop-form-preserved
loop-form-preserved c =
    adds_form c.args.forms.now c.loop-form.form-index c.form-item.result _ _ _ c.loop-form-test.true c.loop-form.invariant
    (subst (λ (f : Form). Adds (λ n. mentions n f) c.loop-form.used c.mark_form.new.marks) (c.get.ensures ∙ c.form-item.is) c.in_ok-mark_form.ensures)
