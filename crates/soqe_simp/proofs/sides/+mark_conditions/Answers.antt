use Rattle.std.proofs.Common.{◌∙◌, ap, sym}
use Rattle.soqe_form.specs.Boxes.{boxes}
use Rattle.soqe_number.specs.Counts.{counted}
use Rattle.soqe_number.proofs.Marked.{adds-same}
use Rattle.soqe_simp.specs.Sides.{has_side, has_condition}
use Rattle.soqe_simp.proofs.sides.+mark_conditions.Goals as goal

pub mark_conditions-returns-in_ok-mark_sides-in-Not-clause-adds : goal.mark_conditions-returns-in_ok-mark_sides-in-Not-clause-adds
unfolding boxes
mark_conditions-returns-in_ok-mark_sides-in-Not-clause-adds t c =
    let place = counted c.args.places.now in
    adds-same _ _ _ _ (λ n. ap (has_condition place n) c.in-Not.is ∙ sym (ap (has_side place n) c.get.ensures)) c.in_ok-mark_sides-in-Not.ensures.adds

pub mark_conditions-returns-in_ok-mark_sides-in-Imp-clause-adds : goal.mark_conditions-returns-in_ok-mark_sides-in-Imp-clause-adds
unfolding boxes
mark_conditions-returns-in_ok-mark_sides-in-Imp-clause-adds t c =
    let place = counted c.args.places.now in
    adds-same _ _ _ _ (λ n. ap (has_condition place n) c.in-Imp.is ∙ sym (ap (has_side place n) c.get-in-Imp.ensures)) c.in_ok-mark_sides-in-Imp.ensures.adds

pub mark_conditions-returns-in_ok-mark_conditions_below-in-All-clause-adds : goal.mark_conditions-returns-in_ok-mark_conditions_below-in-All-clause-adds
mark_conditions-returns-in_ok-mark_conditions_below-in-All-clause-adds t c =
    adds-same _ _ _ _ (λ n. ap (has_condition (counted c.args.places.now) n) c.in-All.is) c.in_ok-mark_conditions_below-in-All.ensures.adds
