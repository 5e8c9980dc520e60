use Rattle.std.proofs.Common.{◌≡◌, IfOk, [], ◌∙◌, sym, ap, subst}
use Rattle.std.proofs.lemmas.List.{nil_from_length}
use Rattle.std.specs.Vec.Iter.{into_iter_items}
use Rattle.soqe_form.specs.declared.form.Form.{Form}
use Rattle.soqe_norm.specs.Joins.{and_onto}
use Rattle.soqe_norm.proofs.Joins.{joined_all}
use Rattle.soqe_norm.proofs.folding.all.Goals as goal

pub returns : goal.returns
returns c =
    let none : into_iter_items c.loop-form.form-iterator ≡ [] = nil_from_length (into_iter_items c.loop-form.form-iterator) (sym c.loop-form.invariant.1 ∙ c.in-None.ensures.steps.0) in
    subst (λ (f : Form). IfOk c.made_or.result (λ r. r ≡ f))
    (joined_all c.args.forms c.loop-form.made (ap (and_onto c.loop-form.made) (sym none) ∙ c.loop-form.invariant.0)) c.made_or.ensures
