use Rattle.std.proofs.Common.{◌∙◌, List, get_or, take, refl, sym, subst}
use Rattle.std.proofs.lemmas.List.{take_more}
use Rattle.std.proofs.lemmas.List.Elements.{Contains-get_or}
use Rattle.soqe_form.specs.declared.form.Form.{Form}
use Rattle.soqe_ack.specs.Divides.{IsRole, IsDivided}
use Rattle.soqe_ack.specs.Signs.{is_pos}
use Rattle.soqe_ack.proofs.Division.{divided-none, divided-more, stuck-at}
use Rattle.soqe_ack.proofs.dividing.divide.Goals as goal

pub loop-form-init : goal.loop-form-init
loop-form-init c = divided-none (is_pos c.args.sign) c.args.pred.now c.args.params.now _ refl c.new.ensures.items

pub returns-then-stands_in_way : goal.returns-then-stands_in_way
returns-then-stands_in_way c =
    stuck-at (is_pos c.args.sign) c.args.pred.now c.args.params.now c.args.conj.now (get_or c.args.conj.now c.loop-form.form-index c.form-item.result) c.in_ok-role.role
    (Contains-get_or c.args.conj.now c.loop-form.form-index c.form-item.result c.loop-form-test.true)
    (subst (λ (f : Form). IsRole (is_pos c.args.sign) c.args.pred.now c.args.params.now f c.in_ok-role.role) c.form-item.is c.in_ok-role.ensures)
    (sym c.stands_in_way.ensures ∙ c.if-stands_in_way.true)

pub loop-form-preserved : goal.loop-form-preserved
loop-form-preserved c =
    subst (λ (fs : List Form). IsDivided (is_pos c.args.sign) c.args.pred.now c.args.params.now fs c.in_ok-divided.divided)
    (sym (take_more c.args.conj.now c.loop-form.form-index c.form-item.result c.loop-form-test.true))
    (divided-more (is_pos c.args.sign) c.args.pred.now c.args.params.now (take c.loop-form.form-index c.args.conj.now) (get_or c.args.conj.now c.loop-form.form-index c.form-item.result)
    c.loop-form.divided c.in_ok-divided.divided c.in_ok-role.role c.loop-form.invariant
    (subst (λ (f : Form). IsRole (is_pos c.args.sign) c.args.pred.now c.args.params.now f c.in_ok-role.role) c.form-item.is c.in_ok-role.ensures)
    (sym c.stands_in_way.ensures ∙ c.if-stands_in_way.false) c.in_ok-divided.ensures)
