use Rattle.std.proofs.Common.{◌≡◌, ◌∙◌, ℕ, List, map, ap, None, Some, subst}
use Rattle.std.specs.Prelude.{OnOk}
use Rattle.soqe_form.specs.declared.form.PVar.{PVar}
use Rattle.soqe_syntax.specs.Shapes.{view}
use Rattle.soqe_term.specs.declared.term.Var.{Var}
use Rattle.soqe_text.specs.Meanings.{found_in}
use Rattle.soqe_text.specs.Refused.{OnRefusedAt}
use Rattle.soqe_text.specs.SpelledForm.{refused}
use Rattle.soqe_text.proofs.reading_form.check_form_names.Goals as goal

pub returns-clause-ok : goal.returns-clause-ok
returns-clause-ok c =
    let look = found_in c.args.given.now.sig.now c.args.given.now.skolems.now in
    let xs = c.in_ok-vars.ensures ∙ ap (map (λ (x : Var). x.num)) c.as_slice.ensures in
    let ps = c.in_ok-preds.ensures ∙ ap (map (λ (p : PVar). p.num)) c.as_slice-2.ensures in
    subst (λ (vs : List ℕ). OnOk c.check_names.result (refused c.args.bytes.now look vs (map (λ (p : PVar). p.num) c.args.given.now.preds.now) (view c.args.shape.now) ≡ None)) xs
    (subst (λ (qs : List ℕ). OnOk c.check_names.result (refused c.args.bytes.now look c.in_ok-vars.vars qs (view c.args.shape.now) ≡ None)) ps c.check_names.ensures.ok)

pub returns-clause-refused : goal.returns-clause-refused
returns-clause-refused c =
    let look = found_in c.args.given.now.sig.now c.args.given.now.skolems.now in
    let xs = c.in_ok-vars.ensures ∙ ap (map (λ (x : Var). x.num)) c.as_slice.ensures in
    let ps = c.in_ok-preds.ensures ∙ ap (map (λ (p : PVar). p.num)) c.as_slice-2.ensures in
    subst (λ (vs : List ℕ). OnRefusedAt c.check_names.result (λ at. refused c.args.bytes.now look vs (map (λ (p : PVar). p.num) c.args.given.now.preds.now) (view c.args.shape.now) ≡ Some at)) xs
    (subst (λ (qs : List ℕ). OnRefusedAt c.check_names.result (λ at. refused c.args.bytes.now look c.in_ok-vars.vars qs (view c.args.shape.now) ≡ Some at)) ps c.check_names.ensures.refused)
