use Rattle.std.proofs.Common.{[], ◌∷◌, ◌++◌, ◌∙◌, subst, append_assoc}
use Rattle.soqe_form.specs.declared.form.Form.{Form}
use Rattle.soqe_form.specs.declared.form.Pred.TheVariants.{Bound}
use Rattle.soqe_ack.specs.declared.steps.DlsStep.{DlsStep}
use Rattle.soqe_ack.specs.declared.steps.DlsStep.TheVariants as step
use Rattle.soqe_dls.specs.ShownCases.{IsShown}
use Rattle.soqe_dls.proofs.elimination.write_try.Goals as goal

pub returns : goal.returns
returns c =
    let ack : DlsStep = step.Ack c.args.tried.sign (Bound c.args.pred.now.num) c.in_ok-shown.shown.params c.in_ok-shown.shown.value in
    record {
      params = c.in_ok-shown.shown.params;
      value = c.in_ok-shown.shown.value;
      shown = subst (λ (f : Form). IsShown c.args.keep.now c.args.tried.params f c.in_ok-shown.shown.params c.in_ok-shown.shown.value) c.get.ensures c.in_ok-shown.ensures;
      is = c.in_ok-form.ensures;
      steps =
          c.in_ok-push-2.ensures.ok ∙ (λ i. c.in_ok-push.ensures.ok i ++ step.Gives (c.in_ok-gives.ensures i) ∷ [])
          ∙ append_assoc c.args.steps.now (ack ∷ []) (step.Gives c.in_ok-form.form ∷ []);
    }
