use Rattle.soqe_ack.specs.Signs.{is_pos}
use Rattle.soqe_ack.proofs.Applies.{acked-by}
use Rattle.soqe_ack.proofs.applying.apply_try.Goals as goal

pub returns-in_ok-form-in-Some-2 : goal.returns-in_ok-form-in-Some-2
returns-in_ok-form-in-Some-2 c =
    acked-by (is_pos c.args.sign) c.args.pred.now c.args.keep.now c.args.case.now.vars c.args.case.now.conj c.in_ok-params.params c.as_slice.result.now c.in_ok-divide.field-0
    c.in-Some.divided c.in_ok-condition-in-Some.condition c.in_ok-value-in-Some.value c.in_ok-form-in-Some.form c.in_ok-form-in-Some-2.form c.as_slice-in-Some.result.now
    c.in_ok-params.ensures c.in_ok-divide.ensures c.as_slice.ensures c.in-Some.is c.in_ok-condition-in-Some.ensures c.in_ok-value-in-Some.ensures c.in_ok-form-in-Some.ensures
    c.in_ok-form-in-Some-2.ensures c.as_slice-in-Some.ensures
