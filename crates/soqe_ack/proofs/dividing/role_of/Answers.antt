use Rattle.std.proofs.Common.{◌∙◌, sym, ap}
use Rattle.soqe_norm.specs.Rises.{has_sign}
use Rattle.soqe_ack.specs.Signs.{is_pos}
use Rattle.soqe_ack.specs.declared.guarding.Found.TheVariants as found
use Rattle.soqe_ack.proofs.GuardFound.{found-at}
use Rattle.soqe_ack.proofs.GuardSigns.{guard-sign}
use Rattle.soqe_ack.proofs.dividing.role_of.Goals as goal

pub returns-then-has_sign : goal.returns-then-has_sign
returns-then-has_sign c =
    let k = found-at (is_pos c.args.sign) c.args.pred.now c.args.params.now c.args.form.now c.get.result.now c.in_ok-find.field-0 found.NoGuard c.get.ensures c.in_ok-find.ensures c.in-NoGuard.is in
    (sym (ap (has_sign (is_pos c.args.sign) c.args.pred.now) c.get-in-NoGuard.ensures) ∙ sym c.has_sign.ensures ∙ c.if-has_sign.true, k.1)

pub returns-in_ok-form-in-Lacking : goal.returns-in_ok-form-in-Lacking
returns-in_ok-form-in-Lacking c = (
  found-at (is_pos c.args.sign) c.args.pred.now c.args.params.now c.args.form.now c.get.result.now c.in_ok-find.field-0 found.Lacking c.get.ensures c.in_ok-find.ensures c.in-Lacking.is,
  c.in_ok-form-in-Lacking.ensures,
)

pub returns-in-Parts : goal.returns-in-Parts
returns-in-Parts c =
    let k = found-at (is_pos c.args.sign) c.args.pred.now c.args.params.now c.args.form.now c.get.result.now c.in_ok-find.field-0 (found.Parts c.in-Parts.parts) c.get.ensures c.in_ok-find.ensures c.in-Parts.is in
    (guard-sign (is_pos c.args.sign) c.args.pred.now c.args.params.now k.1 k.0, k.1)
