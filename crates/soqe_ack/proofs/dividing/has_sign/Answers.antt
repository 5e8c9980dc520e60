use Rattle.std.proofs.Common.{◌∙◌, sym, ap}
use Rattle.soqe_norm.specs.Rises.{has_sign}
use Rattle.soqe_norm.proofs.Occurrences.{pos-is-sign, neg-is-sign}
use Rattle.soqe_ack.specs.Signs.{is_pos}
use Rattle.soqe_ack.proofs.dividing.has_sign.Goals as goal

pub returns-in-Pos : goal.returns-in-Pos
returns-in-Pos c =
    c.signs-found.ensures.pos ∙ pos-is-sign c.args.pred.now c.args.form.now ∙ ap (λ s. has_sign (is_pos s) c.args.pred.now c.args.form.now) (sym c.in-Pos.is)

pub returns-in-Neg : goal.returns-in-Neg
returns-in-Neg c =
    c.signs-found.ensures.neg ∙ neg-is-sign c.args.pred.now c.args.form.now ∙ ap (λ s. has_sign (is_pos s) c.args.pred.now c.args.form.now) (sym c.in-Neg.is)
