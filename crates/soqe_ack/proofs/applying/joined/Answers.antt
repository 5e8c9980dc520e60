use Rattle.std.proofs.Common.{map, ◌∙◌, ap, subst}
use Rattle.std.specs.Prelude.{◌≡◌, IfOk}
use Rattle.soqe_form.specs.declared.form.Form.{Form}
use Rattle.soqe_norm.specs.Folds.{all_of}
use Rattle.soqe_norm.proofs.Joins.{joined_all}
use Rattle.soqe_ack.specs.Divides.{share_form}
use Rattle.soqe_ack.proofs.applying.joined.Goals as goal

pub returns : goal.returns
returns c =
    subst (λ (f : Form). IfOk c.made_or.result (λ r. r ≡ f))
    (joined_all (map (share_form c.args.pred.now c.args.params.now c.get-body.result.now) c.args.shares.items) c.in_ok-made.made c.in_ok-made.ensures
    ∙ ap (λ (v : Form). all_of (map (share_form c.args.pred.now c.args.params.now v) c.args.shares.items)) c.get-body.ensures) c.made_or.ensures
