use Rattle.std.proofs.Common.{◌∙◌}
use Rattle.soqe_form.specs.Boxes.{boxes}
use Rattle.soqe_tidy.proofs.TidyBinders.{tidies-below, both-parts, tidies-and, tidies-or, tidies-imp, tidies-iff}
use Rattle.soqe_tidy.proofs.tidying.+build.Goals as goal

pub build_below-returns : goal.build_below-returns
build_below-returns t c =
    tidies-below c.args.kept.now c.args.by.now c.set.new.self c.build_boxed.new.by c.set-2.new.self c.args.tally.now c.number.new.tally c.enter.new.tally
    c.args.uses.now c.pop_nests-nests.new.self c.build_boxed.new.uses c.args.x c.args.form c.in_ok-form.form c.in_ok-num.num c.pop-count.result c.of-outer.result
    c.pop-count.ensures.uses (c.pop_nests-nests.ensures ∙ c.pop-count.ensures.rest) c.in_ok-num.ensures c.of-outer.ensures c.in_ok-set.ensures
    c.in_ok-enter.ensures c.in_ok-form.ensures c.in_ok-set-2.ensures

pub build-returns-in_ok-f-in-And : goal.build-returns-in_ok-f-in-And
unfolding boxes
build-returns-in_ok-f-in-And t c =
    tidies-and c.args.kept.now c.args.by.now c.build_part-in-And.new.by c.args.tally.now c.args.uses.now c.build_part-in-And.new.uses c.args.form c.in-And.f c.in-And.g
    c.in_ok-f-in-And.f c.in_ok-g-in-And.g c.in-And.is
    (both-parts c.args.kept.now c.args.by.now c.build_part.new.by c.build_part-in-And.new.by _ c.args.tally.now c.part.new.tally c.build_part.new.tally c.build_part-in-And.new.tally
    c.args.uses.now c.part.new.uses c.build_part.new.uses c.build_part-in-And.new.uses c.in-And.f c.in-And.g c.in_ok-f-in-And.f c.in_ok-g-in-And.g
    c.in_ok-left_is_smaller-in-And.ensures.tallies c.part.ensures.uses c.in_ok-g-in-And.ensures c.in_ok-f-in-And.ensures)

pub build-returns-in_ok-f-in-Or : goal.build-returns-in_ok-f-in-Or
unfolding boxes
build-returns-in_ok-f-in-Or t c =
    tidies-or c.args.kept.now c.args.by.now c.build_part-in-Or-2.new.by c.args.tally.now c.args.uses.now c.build_part-in-Or-2.new.uses c.args.form c.in-Or.f c.in-Or.g
    c.in_ok-f-in-Or.f c.in_ok-g-in-Or.g c.in-Or.is
    (both-parts c.args.kept.now c.args.by.now c.build_part-in-Or.new.by c.build_part-in-Or-2.new.by _ c.args.tally.now c.part-in-Or.new.tally c.build_part-in-Or.new.tally c.build_part-in-Or-2.new.tally
    c.args.uses.now c.part-in-Or.new.uses c.build_part-in-Or.new.uses c.build_part-in-Or-2.new.uses c.in-Or.f c.in-Or.g c.in_ok-f-in-Or.f c.in_ok-g-in-Or.g
    c.in_ok-left_is_smaller-in-Or.ensures.tallies c.part-in-Or.ensures.uses c.in_ok-g-in-Or.ensures c.in_ok-f-in-Or.ensures)

pub build-returns-in_ok-f-in-Imp : goal.build-returns-in_ok-f-in-Imp
unfolding boxes
build-returns-in_ok-f-in-Imp t c =
    tidies-imp c.args.kept.now c.args.by.now c.build_part-in-Imp-2.new.by c.args.tally.now c.args.uses.now c.build_part-in-Imp-2.new.uses c.args.form c.in-Imp.f c.in-Imp.g
    c.in_ok-f-in-Imp.f c.in_ok-g-in-Imp.g c.in-Imp.is
    (both-parts c.args.kept.now c.args.by.now c.build_part-in-Imp.new.by c.build_part-in-Imp-2.new.by _ c.args.tally.now c.part-in-Imp.new.tally c.build_part-in-Imp.new.tally c.build_part-in-Imp-2.new.tally
    c.args.uses.now c.part-in-Imp.new.uses c.build_part-in-Imp.new.uses c.build_part-in-Imp-2.new.uses c.in-Imp.f c.in-Imp.g c.in_ok-f-in-Imp.f c.in_ok-g-in-Imp.g
    c.in_ok-left_is_smaller-in-Imp.ensures.tallies c.part-in-Imp.ensures.uses c.in_ok-g-in-Imp.ensures c.in_ok-f-in-Imp.ensures)

pub build-returns-in_ok-f-in-Iff : goal.build-returns-in_ok-f-in-Iff
unfolding boxes
build-returns-in_ok-f-in-Iff t c =
    tidies-iff c.args.kept.now c.args.by.now c.build_part-in-Iff-2.new.by c.args.tally.now c.args.uses.now c.build_part-in-Iff-2.new.uses c.args.form c.in-Iff.f c.in-Iff.g
    c.in_ok-f-in-Iff.f c.in_ok-g-in-Iff.g c.in-Iff.is
    (both-parts c.args.kept.now c.args.by.now c.build_part-in-Iff.new.by c.build_part-in-Iff-2.new.by _ c.args.tally.now c.part-in-Iff.new.tally c.build_part-in-Iff.new.tally c.build_part-in-Iff-2.new.tally
    c.args.uses.now c.part-in-Iff.new.uses c.build_part-in-Iff.new.uses c.build_part-in-Iff-2.new.uses c.in-Iff.f c.in-Iff.g c.in_ok-f-in-Iff.f c.in_ok-g-in-Iff.g
    c.in_ok-left_is_smaller-in-Iff.ensures.tallies c.part-in-Iff.ensures.uses c.in_ok-g-in-Iff.ensures c.in_ok-f-in-Iff.ensures)
