use Rattle.std.proofs.Common.{◌++◌, string_bytes, ◌∙◌, ap, sym}
use Rattle.std.proofs.lemmas.Result.{on_ok_weaker}
use Rattle.soqe_form.specs.Boxes.{boxes}
use Rattle.soqe_show.specs.Dress.{form_text, pred_name}
use Rattle.soqe_show.proofs.Written.{joined}
use Rattle.soqe_show.proofs.Arguments.{applied_args}
use Rattle.soqe_show.proofs.Negations.{negated_other}
use Rattle.soqe_show.proofs.formulas.+form.Goals as goal

pub write_form-returns-in-Atom : goal.write_form-returns-in-Atom
unfolding boxes
write_form-returns-in-Atom t c =
    let start = string_bytes c.args.out.now in
    let ds = c.args.sig.now in
    on_ok_weaker c.write_atom.result
    (λ written. written
    ∙ ap (λ t. start ++ t) (sym (applied_args ds (pred_name ds c.in-Atom.p) c.in-Atom.ts))
    ∙ ap (λ f. start ++ form_text ds f) (sym c.in-Atom.is))
    c.write_atom.ensures

pub write_form-returns-in_ok-push_str-in-And : goal.write_form-returns-in_ok-push_str-in-And
unfolding boxes
write_form-returns-in_ok-push_str-in-And t c =
    on_ok_weaker c.write_guarded-in-And.result
    (λ written. joined _ _ _ (joined _ _ _ c.in_ok-write_guarded-in-And.ensures c.in_ok-push_str-in-And.ensures.bytes) written
    ∙ ap (λ f. string_bytes c.args.out.now ++ form_text c.args.sig.now f) (sym c.in-And.is))
    c.write_guarded-in-And.ensures

pub write_form-returns-in_ok-push_str-in-Or : goal.write_form-returns-in_ok-push_str-in-Or
unfolding boxes
write_form-returns-in_ok-push_str-in-Or t c =
    on_ok_weaker c.write_guarded-in-Or-2.result
    (λ written. joined _ _ _ (joined _ _ _ c.in_ok-write_guarded-in-Or.ensures c.in_ok-push_str-in-Or.ensures.bytes) written
    ∙ ap (λ f. string_bytes c.args.out.now ++ form_text c.args.sig.now f) (sym c.in-Or.is))
    c.write_guarded-in-Or-2.ensures

pub write_form-returns-in_ok-push_str-in-Imp : goal.write_form-returns-in_ok-push_str-in-Imp
unfolding boxes
write_form-returns-in_ok-push_str-in-Imp t c =
    on_ok_weaker c.write_guarded-in-Imp-2.result
    (λ written. joined _ _ _ (joined _ _ _ c.in_ok-write_guarded-in-Imp.ensures c.in_ok-push_str-in-Imp.ensures.bytes) written
    ∙ ap (λ f. string_bytes c.args.out.now ++ form_text c.args.sig.now f) (sym c.in-Imp.is))
    c.write_guarded-in-Imp-2.ensures

pub write_form-returns-in_ok-push_str-in-Iff : goal.write_form-returns-in_ok-push_str-in-Iff
unfolding boxes
write_form-returns-in_ok-push_str-in-Iff t c =
    on_ok_weaker c.write_guarded-in-Iff-2.result
    (λ written. joined _ _ _ (joined _ _ _ c.in_ok-write_guarded-in-Iff.ensures c.in_ok-push_str-in-Iff.ensures.bytes) written
    ∙ ap (λ f. string_bytes c.args.out.now ++ form_text c.args.sig.now f) (sym c.in-Iff.is))
    c.write_guarded-in-Iff-2.ensures

pub write_form-returns-in_ok-write_binder-in-All : goal.write_form-returns-in_ok-write_binder-in-All
unfolding boxes
write_form-returns-in_ok-write_binder-in-All t c =
    on_ok_weaker c.write_guarded-in-All.result
    (λ written. joined _ _ _ c.in_ok-write_binder-in-All.ensures written
    ∙ ap (λ f. string_bytes c.args.out.now ++ form_text c.args.sig.now f) (sym c.in-All.is))
    c.write_guarded-in-All.ensures

pub write_form-returns-in_ok-write_binder-in-Ex : goal.write_form-returns-in_ok-write_binder-in-Ex
unfolding boxes
write_form-returns-in_ok-write_binder-in-Ex t c =
    on_ok_weaker c.write_guarded-in-Ex.result
    (λ written. joined _ _ _ c.in_ok-write_binder-in-Ex.ensures written
    ∙ ap (λ f. string_bytes c.args.out.now ++ form_text c.args.sig.now f) (sym c.in-Ex.is))
    c.write_guarded-in-Ex.ensures

pub write_form-returns-in_ok-write_binder2-in-All2 : goal.write_form-returns-in_ok-write_binder2-in-All2
unfolding boxes
write_form-returns-in_ok-write_binder2-in-All2 t c =
    on_ok_weaker c.write_guarded-in-All2.result
    (λ written. joined _ _ _ c.in_ok-write_binder2-in-All2.ensures written
    ∙ ap (λ f. string_bytes c.args.out.now ++ form_text c.args.sig.now f) (sym c.in-All2.is))
    c.write_guarded-in-All2.ensures

pub write_form-returns-in_ok-write_binder2-in-Ex2 : goal.write_form-returns-in_ok-write_binder2-in-Ex2
unfolding boxes
write_form-returns-in_ok-write_binder2-in-Ex2 t c =
    on_ok_weaker c.write_guarded-in-Ex2.result
    (λ written. joined _ _ _ c.in_ok-write_binder2-in-Ex2.ensures written
    ∙ ap (λ f. string_bytes c.args.out.now ++ form_text c.args.sig.now f) (sym c.in-Ex2.is))
    c.write_guarded-in-Ex2.ensures

pub write_negated-returns-in_ok-push_str-in_default : goal.write_negated-returns-in_ok-push_str-in_default
unfolding boxes
write_negated-returns-in_ok-push_str-in_default t c =
    on_ok_weaker c.write_guarded.result
    (λ written. joined _ _ _ c.in_ok-push_str-in_default.ensures.bytes written
    ∙ ap (λ t. string_bytes c.args.out.now ++ t) (negated_other c.args.sig.now c.args.form.now (λ s t e. c.in_default.not-Equal s t (c.get.ensures ∙ e))))
    c.write_guarded.ensures
