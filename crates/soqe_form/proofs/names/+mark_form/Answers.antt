use Rattle.std.proofs.Common.{eqb, false, ◌||◌, ◌∙◌, ap, sym, ⊎_elim}
use Rattle.soqe_term.specs.Occurs.{occurs, occurs_any}
use Rattle.soqe_form.specs.Boxes.{boxes}
use Rattle.soqe_form.specs.Mentions.{mentions}
use Rattle.soqe_number.proofs.Marked.{adds-none, adds-one, adds-same, adds-two}
use Rattle.soqe_form.proofs.names.+mark_form.Goals as goal

pub returns-in_ok-mark_term-in-Equal-2 : goal.returns-in_ok-mark_term-in-Equal-2
returns-in_ok-mark_term-in-Equal-2 t c =
    adds-two (λ n. occurs n c.get.result.now) (λ n. occurs n c.get-in-Equal.result.now) _ _ _ _
    (λ n. ap (mentions n) c.in-Equal.is ∙ sym (λ i. occurs n (c.get.ensures i) || occurs n (c.get-in-Equal.ensures i)))
    c.in_ok-mark_term-in-Equal.ensures c.in_ok-mark_term-in-Equal-2.ensures

pub returns-in_ok-mark_terms-in-Atom : goal.returns-in_ok-mark_terms-in-Atom
returns-in_ok-mark_terms-in-Atom t c = adds-same (λ n. occurs_any n c.in-Atom.ts) _ _ _ (λ n. ap (mentions n) c.in-Atom.is) c.in_ok-mark_terms-in-Atom.ensures

pub returns-in-True : goal.returns-in-True
returns-in-True t c = adds-same (λ n. false) _ _ _ (λ n. ⊎_elim (λ e. ap (mentions n) e) (λ e. ap (mentions n) e) c.in-True.is) (adds-none c.args.marks.now)

pub returns-in_ok-mark_form-in-All : goal.returns-in_ok-mark_form-in-All
unfolding boxes
returns-in_ok-mark_form-in-All t c =
    adds-two (λ n. eqb n c.in-All.x.num) (λ n. mentions n c.get-in-All.result.now) _ _ _ _
    (λ n. ⊎_elim (λ e. ap (mentions n) e) (λ e. ap (mentions n) e) c.in-All.is ∙ sym (λ i. eqb n c.in-All.x.num || mentions n (c.get-in-All.ensures i)))
    (adds-one _ _ c.in-All.x.num c.in_ok-set-in-All.ensures) c.in_ok-mark_form-in-All.ensures

pub returns-in_ok-mark_form-in-Not : goal.returns-in_ok-mark_form-in-Not
unfolding boxes
returns-in_ok-mark_form-in-Not t c =
    adds-same (λ n. mentions n c.get-in-Not.result.now) _ _ _
    (λ n. ⊎_elim (λ e. ap (mentions n) e) (⊎_elim (λ e. ap (mentions n) e.1) (λ e. ap (mentions n) e.1)) c.in-Not.is ∙ sym (ap (mentions n) c.get-in-Not.ensures))
    c.in_ok-mark_form-in-Not.ensures

pub returns-in_ok-mark_form-in-And-2 : goal.returns-in_ok-mark_form-in-And-2
unfolding boxes
returns-in_ok-mark_form-in-And-2 t c =
    adds-two (λ n. mentions n c.get-in-And.result.now) (λ n. mentions n c.get-in-And-2.result.now) _ _ _ _
    (λ n. ⊎_elim (λ e. ap (mentions n) e) (⊎_elim (λ e. ap (mentions n) e) (⊎_elim (λ e. ap (mentions n) e) (λ e. ap (mentions n) e))) c.in-And.is
    ∙ sym (λ i. mentions n (c.get-in-And.ensures i) || mentions n (c.get-in-And-2.ensures i)))
    c.in_ok-mark_form-in-And.ensures c.in_ok-mark_form-in-And-2.ensures

pub returns-in-True-2 : goal.returns-in-True-2
returns-in-True-2 t c = adds-same (λ n. false) _ _ _ (λ n. ⊎_elim (λ e. ap (mentions n) e) (λ e. ap (mentions n) e) c.in-True.is) (adds-none c.args.marks.now)
