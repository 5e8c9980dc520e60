use Rattle.std.proofs.Common.{◌∙◌, ap}
use Rattle.soqe_number.specs.Counts.{counted}
use Rattle.soqe_simp.specs.Sides.{has_side, has_condition}
use Rattle.soqe_simp.proofs.Knowing.{marks-anew}
use Rattle.soqe_simp.proofs.known.learn.Goals as goal

pub returns-clause-learned : goal.returns-clause-learned
returns-clause-learned c = record {
  free = c.in_ok-free.ensures;
  sides = marks-anew (λ n. has_side (counted c.args.known.now.places) n c.args.form.now) c.new-sides.result c.mark_sides.new.marks c.in_ok-mark_sides.ensures.adds c.new-sides.ensures;
  conditions = marks-anew (λ n. has_condition (counted c.mark_sides.new.places) n c.args.form.now) c.new-conditions.result c.mark_conditions.new.marks
      c.in_ok-mark_conditions.ensures.adds c.new-conditions.ensures
      ∙ ap (λ place n. has_condition place n c.args.form.now) c.in_ok-mark_sides.ensures.places;
}
