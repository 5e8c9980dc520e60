use Rattle.std.proofs.Common.{◌≡◌, ℕ, Bool, List, ◌++◌, ◌∙◌, ap, subst}
use Rattle.std.specs.Prelude.{IfOk}
use Rattle.soqe_number.specs.Unused.{member}
use Rattle.soqe_number.specs.Marks.{marked}
use Rattle.soqe_norm.specs.Apart.{binders, AreChoices, taken_first}
use Rattle.soqe_norm.proofs.Choosing.{first_taken}
use Rattle.soqe_norm.proofs.apart.new_numbers.Goals as goal

pub returns : goal.returns
returns c =
    let taken : marked c.mark_first.new.marks ≡ taken_first c.args.keep.now c.args.form.now =
    first_taken c.args.keep.now c.args.form.now c.in_ok-free.free c.new-taken.result c.mark_first.new.marks c.in_ok-free.ensures c.new-taken.ensures c.in_ok-mark_first.ensures in
    let old : c.as_slice-2.result.now ≡ binders c.args.form.now = c.as_slice-2.ensures ∙ c.in_ok-list_binders.ensures ∙ ap (λ ns. ns ++ binders c.args.form.now) c.new-old.ensures in
    subst (λ (t : ℕ → Bool). IfOk c.chosen.result (λ ns. AreChoices t (λ n. member n (binders c.args.form.now)) (binders c.args.form.now) ns)) taken
    (subst (λ (bs : List ℕ). IfOk c.chosen.result (λ ns. AreChoices (marked c.mark_first.new.marks) (λ n. member n bs) bs ns)) old c.chosen.ensures)
