use Rattle.std.proofs.Common.{eqb, false, ◌||◌, ◌∙◌, ap, sym, ⊎_elim}
use Rattle.soqe_form.specs.Boxes.{boxes}
use Rattle.soqe_form.specs.Free.{is_bound}
use Rattle.soqe_form.specs.MentionsPreds.{mentions_pred}
use Rattle.soqe_number.proofs.Marked.{adds-none, adds-one, adds-same, adds-two}
use Rattle.soqe_form.proofs.free_preds.+mark_preds.Goals as goal

pub returns-in-True : goal.returns-in-True
returns-in-True t c = adds-same (λ n. false) _ _ _ (λ n. ap (mentions_pred n) c.in-True.is) (adds-none c.args.marks.now)

pub returns-in-False : goal.returns-in-False
returns-in-False t c = adds-same (λ n. false) _ _ _ (λ n. ap (mentions_pred n) c.in-False.is) (adds-none c.args.marks.now)

pub returns-in-Equal : goal.returns-in-Equal
returns-in-Equal t c = adds-same (λ n. false) _ _ _ (λ n. ap (mentions_pred n) c.in-Equal.is) (adds-none c.args.marks.now)

pub returns-in_ok-mark_pred-in-Atom : goal.returns-in_ok-mark_pred-in-Atom
returns-in_ok-mark_pred-in-Atom t c = adds-same (λ n. is_bound n c.in-Atom.p) _ _ _ (λ n. ap (mentions_pred n) c.in-Atom.is) c.in_ok-mark_pred-in-Atom.ensures

pub returns-in_ok-mark_preds-in-All2 : goal.returns-in_ok-mark_preds-in-All2
unfolding boxes
returns-in_ok-mark_preds-in-All2 t c =
    adds-two (λ n. eqb n c.in-All2.p.num) (λ n. mentions_pred n c.get.result.now) _ _ _ _
    (λ n. ⊎_elim (λ e. ap (mentions_pred n) e) (λ e. ap (mentions_pred n) e) c.in-All2.is ∙ sym (λ i. eqb n c.in-All2.p.num || mentions_pred n (c.get.ensures i)))
    (adds-one _ _ c.in-All2.p.num c.in_ok-set-in-All2.ensures) c.in_ok-mark_preds-in-All2.ensures

pub returns-in_ok-mark_preds-in-Not : goal.returns-in_ok-mark_preds-in-Not
unfolding boxes
returns-in_ok-mark_preds-in-Not t c =
    adds-same (λ n. mentions_pred n c.get-in-Not.result.now) _ _ _
    (λ n. ⊎_elim (λ e. ap (mentions_pred n) e) (⊎_elim (λ e. ap (mentions_pred n) e.1) (λ e. ap (mentions_pred n) e.1)) c.in-Not.is ∙ sym (ap (mentions_pred n) c.get-in-Not.ensures))
    c.in_ok-mark_preds-in-Not.ensures

pub returns-in_ok-mark_preds-in-And-2 : goal.returns-in_ok-mark_preds-in-And-2
unfolding boxes
returns-in_ok-mark_preds-in-And-2 t c =
    adds-two (λ n. mentions_pred n c.get-in-And.result.now) (λ n. mentions_pred n c.get-in-And-2.result.now) _ _ _ _
    (λ n. ⊎_elim (λ e. ap (mentions_pred n) e) (⊎_elim (λ e. ap (mentions_pred n) e) (⊎_elim (λ e. ap (mentions_pred n) e) (λ e. ap (mentions_pred n) e))) c.in-And.is
    ∙ sym (λ i. mentions_pred n (c.get-in-And.ensures i) || mentions_pred n (c.get-in-And-2.ensures i)))
    c.in_ok-mark_preds-in-And.ensures c.in_ok-mark_preds-in-And-2.ensures
