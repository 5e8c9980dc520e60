use Rattle.std.proofs.Common.{◌||◌, ◌∙◌, ap, sym, subst}
use Rattle.soqe_form.specs.Boxes.{boxes}
use Rattle.soqe_number.specs.Counts.{counted}
use Rattle.soqe_number.specs.Marks.{Adds}
use Rattle.soqe_number.proofs.Marked.{adds-same, adds-two}
use Rattle.soqe_simp.specs.Sides.{has_side}
use Rattle.soqe_simp.proofs.sides.+mark_sides.Goals as goal

pub mark_sides-returns-in_ok-mark_sides-in-And-2-clause-adds : goal.mark_sides-returns-in_ok-mark_sides-in-And-2-clause-adds
unfolding boxes
mark_sides-returns-in_ok-mark_sides-in-And-2-clause-adds t c =
    let place = counted c.args.places.now in
    adds-two (λ n. has_side place n c.get-in-And.result.now) (λ n. has_side place n c.get-in-And-2.result.now) _ _ _ _
    (λ n. ap (has_side place n) c.in-And.is ∙ sym (λ i. has_side place n (c.get-in-And.ensures i) || has_side place n (c.get-in-And-2.ensures i)))
    c.in_ok-mark_sides-in-And.ensures.adds
    (subst (λ p. Adds (λ n. has_side p n c.get-in-And-2.result.now) c.mark_sides.new.marks c.mark_sides-in-And.new.marks) c.in_ok-mark_sides-in-And.ensures.places
    c.in_ok-mark_sides-in-And-2.ensures.adds)

pub mark_sides-returns-in_ok-mark_sides_below-in-Ex-clause-adds : goal.mark_sides-returns-in_ok-mark_sides_below-in-Ex-clause-adds
mark_sides-returns-in_ok-mark_sides_below-in-Ex-clause-adds t c =
    adds-same _ _ _ _ (λ n. ap (has_side (counted c.args.places.now) n) c.in-Ex.is) c.in_ok-mark_sides_below-in-Ex.ensures.adds
