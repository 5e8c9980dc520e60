use Rattle.std.proofs.Common.{◌∙◌, sym, subst}
use Rattle.soqe_form.specs.Boxes.{boxes}
use Rattle.soqe_form.specs.declared.form.Form.{Equal, And, All}
use Rattle.soqe_uses.specs.Uses.{Gathers}
use Rattle.soqe_uses.proofs.UsesCounted.{gathers-equal, gathers-and, gathers-two, gathers-below}
use Rattle.soqe_uses.proofs.uses.+gather.Goals as goal

pub gather-returns-in_ok-right-in-Equal : goal.gather-returns-in_ok-right-in-Equal
gather-returns-in_ok-right-in-Equal t c = gathers-equal _ _ _ _ _ _ _ (c.in-Equal.is ∙ sym (λ i. Equal (c.get.ensures i) (c.get-in-Equal.ensures i))) c.in_ok-left-in-Equal.ensures c.in_ok-right-in-Equal.ensures

pub gather-returns-in_ok-push_split-in-And : goal.gather-returns-in_ok-push_split-in-And
unfolding boxes
gather-returns-in_ok-push_split-in-And t c =
    subst (λ l. Gathers c.args.form.now c.args.counts.now c.gather-in-And-2.new.counts c.args.uses.now l) (sym c.in_ok-push_split-in-And.ensures)
    (gathers-two c.args.form.now _ _ c.args.counts.now c.gather-in-And-2.new.counts c.args.uses.now c.gather-in-And-2.new.uses c.in-And.is
    (subst (λ h. Gathers h c.args.counts.now c.gather-in-And-2.new.counts c.args.uses.now c.gather-in-And-2.new.uses) (λ i. And (c.get-in-And.ensures i) (c.get-in-And-2.ensures i))
    (gathers-and c.get-in-And.result.now c.get-in-And-2.result.now _ _ _ _ _ _ c.in_ok-left-in-And.ensures c.in_ok-right-in-And.ensures)))

pub gather_below-returns : goal.gather_below-returns
gather_below-returns t c =
    subst (λ l. Gathers (All c.args.x c.args.form.now) c.args.counts.now c.set.new.self c.args.uses.now l) (sym c.in_ok-push_nests.ensures)
    (subst (λ h. Gathers (All c.args.x h) c.args.counts.now c.set.new.self c.args.uses.now c.push.new.self) c.get.ensures
    (gathers-below c.args.x c.get.result.now c.args.counts.now c.gather.new.counts c.set.new.self c.of-outside.result c.of-with_inside.result c.saturating_sub-count.result c.args.uses.now
    c.gather.new.uses c.push.new.self c.of-outside.ensures c.in_ok-part.ensures c.of-with_inside.ensures c.saturating_sub-count.ensures c.in_ok-push.ensures c.in_ok-set.ensures))
