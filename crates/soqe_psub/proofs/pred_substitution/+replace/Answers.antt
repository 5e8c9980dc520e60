use Rattle.std.proofs.Common.{◌≡◌, ap, sym, subst, ◌∙◌, arith, true, List}
use Rattle.soqe_term.specs.declared.term.Var.{Var}
use Rattle.soqe_form.specs.declared.form.PVar.{PVar}
use Rattle.soqe_form.specs.declared.form.Pred.{Pred}
use Rattle.soqe_form.specs.declared.form.Form.{Form}
use Rattle.soqe_form.specs.Mentions.{depth}
use Rattle.soqe_subst.specs.Substitution.{renamed}
use Rattle.soqe_term.specs.Renumber.{numbered}
use Rattle.soqe_subst.specs.PredRenaming.{renamed_pred}
use Rattle.soqe_subst.proofs.Renamings.{depth-renamed}
use Rattle.soqe_subst.proofs.PredRenamings.{depth-renamed_pred}
use Rattle.soqe_psub.specs.PredSubst.{IsPredSub, catches_var, fresh_var, catches_pred, fresh_pred}
use Rattle.soqe_psub.proofs.Replacing.{below-renamed, below_pred-renamed}
use Rattle.soqe_psub.proofs.pred_substitution.+replace.Goals as goal

pub replace_below-replace-requires : goal.replace_below-replace-requires
replace_below-replace-requires t c =
    let z : Var = numbered c.args.y c.in_ok-num.num in
    let same : depth c.in_ok-renamed.renamed ≡ depth c.args.form.now =
    ap depth (c.in_ok-renamed.ensures ∙ ap (renamed c.args.y.num z) c.get-then-catches-2.ensures) ∙ depth-renamed c.args.y.num z c.args.form.now in
    (omega arith, c.requires)

pub replace_below-returns-in_ok-form-2 : goal.replace_below-returns-in_ok-form-2
replace_below-returns-in_ok-form-2 t c =
    let y : Var = c.args.y in
    let f : Form = c.args.form.now in
    let q : Pred = c.args.by.now.pred.now in
    let xs : List Var = c.args.by.now.params.now in
    let b : Form = c.args.by.now.body.now in
    let caught : catches_var q xs b y f ≡ true = ap (catches_var q xs b y) (sym c.get.ensures) ∙ sym c.catches.ensures ∙ c.if-catches.true in
    let new : c.in_ok-num.num ≡ fresh_var xs b y f = c.in_ok-num.ensures ∙ ap (fresh_var xs b y) c.get-then-catches.ensures in
    let body : c.in_ok-renamed.renamed ≡ renamed y.num (numbered y c.in_ok-num.num) f =
    c.in_ok-renamed.ensures ∙ ap (renamed y.num (numbered y c.in_ok-num.num)) c.get-then-catches-2.ensures in
    rw c.in_ok-form-2.ensures
    (below-renamed q xs b y f c.in_ok-form.form c.in_ok-num.num caught new (subst (λ g. IsPredSub q xs b g c.in_ok-form.form) body c.in_ok-form.ensures))

pub replace_below_pred-replace-requires : goal.replace_below_pred-replace-requires
replace_below_pred-replace-requires t c =
    let p : PVar = c.args.p.now in
    let same : depth c.in_ok-renamed.renamed ≡ depth c.args.form.now =
    ap depth (c.in_ok-renamed.ensures ∙ ap (renamed_pred p.num c.in_ok-num.num) c.get-then-catches_pred-2.ensures) ∙ depth-renamed_pred p.num c.in_ok-num.num c.args.form.now in
    (omega arith, c.requires)

pub replace_below_pred-returns-in_ok-args : goal.replace_below_pred-returns-in_ok-args
replace_below_pred-returns-in_ok-args t c =
    let p : PVar = c.args.p.now in
    let f : Form = c.args.form.now in
    let q : Pred = c.args.by.now.pred.now in
    let xs : List Var = c.args.by.now.params.now in
    let b : Form = c.args.by.now.body.now in
    let caught : catches_pred q b p f ≡ true = ap (catches_pred q b p) (sym c.get.ensures) ∙ sym c.catches_pred.ensures ∙ c.if-catches_pred.true in
    let new : c.in_ok-num.num ≡ fresh_pred b p f = c.in_ok-num.ensures ∙ ap (fresh_pred b p) c.get-then-catches_pred.ensures in
    let body : c.in_ok-renamed.renamed ≡ renamed_pred p.num c.in_ok-num.num f =
    c.in_ok-renamed.ensures ∙ ap (renamed_pred p.num c.in_ok-num.num) c.get-then-catches_pred-2.ensures in
    rw (c.in_ok-form-2.ensures, c.in_ok-args.ensures)
    (below_pred-renamed q xs b p f c.in_ok-form.form c.in_ok-num.num caught new (subst (λ g. IsPredSub q xs b g c.in_ok-form.form) body c.in_ok-form.ensures))
