use Rattle.std.proofs.Common.{refl, ap, ◌∙◌}
use Rattle.soqe_number.specs.Updates.{changed}
use Rattle.soqe_number.specs.Marks.{marked}
use Rattle.soqe_subst.specs.declared.walk.Walk.{Walk}
use Rattle.soqe_subst.specs.NewVars.{new_var}
use Rattle.soqe_subst.proofs.Substituting.{substitutes-not, substitutes-all, substitutes-ex, substitutes-all2, substitutes-ex2}
use Rattle.soqe_subst.proofs.SubstitutingParts.{both-parts, substitutes-and, substitutes-or, substitutes-imp, substitutes-iff, from_not, from_not_false}
use Rattle.soqe_subst.proofs.SubstitutingBinders.{body-kept, body-renamed, body-below}
use Rattle.soqe_subst.proofs.substitution.+build.Goals as goal

pub build-returns-in_ok-f-in-Not : goal.build-returns-in_ok-f-in-Not
build-returns-in_ok-f-in-Not t c = rw c.in-Not.is (substitutes-not _ _ _ _ _ _ _ c.in_ok-f-in-Not.ensures)

pub build-returns-in_ok-f-in-And : goal.build-returns-in_ok-f-in-And
build-returns-in_ok-f-in-And t c =
    rw c.in-And.is
    (substitutes-and _ _ _ _ _ _ _ _ _
    (both-parts _ _ _ _ _ _ _ _ _ _ _ _ _ _ _ c.in_ok-left_is_smaller-in-And.ensures.tally c.in_ok-left_is_smaller-in-And.ensures.walk c.in_ok-g-in-And.ensures c.in_ok-f-in-And.ensures))

pub build-returns-in_ok-f-in-Or : goal.build-returns-in_ok-f-in-Or
build-returns-in_ok-f-in-Or t c =
    rw c.in-Or.is
    (substitutes-or _ _ _ _ _ _ _ _ _
    (both-parts _ _ _ _ _ _ _ _ _ _ _ _ _ _ _ c.in_ok-left_is_smaller-in-Or.ensures.tally c.in_ok-left_is_smaller-in-Or.ensures.walk c.in_ok-g-in-Or.ensures c.in_ok-f-in-Or.ensures))

pub build-returns-in_ok-f-in-Imp : goal.build-returns-in_ok-f-in-Imp
build-returns-in_ok-f-in-Imp t c =
    rw c.in-Imp.is
    (substitutes-imp _ _ _ _ _ _ _ _ _
    (both-parts _ _ _ _ _ _ _ _ _ _ _ _ _ _ _ c.in_ok-left_is_smaller-in-Imp.ensures.tally c.in_ok-left_is_smaller-in-Imp.ensures.walk c.in_ok-g-in-Imp.ensures c.in_ok-f-in-Imp.ensures))

pub build-returns-in_ok-f-in-Iff : goal.build-returns-in_ok-f-in-Iff
build-returns-in_ok-f-in-Iff t c =
    rw c.in-Iff.is
    (substitutes-iff _ _ _ _ _ _ _ _ _
    (both-parts _ _ _ _ _ _ _ _ _ _ _ _ _ _ _ c.in_ok-left_is_smaller-in-Iff.ensures.tally c.in_ok-left_is_smaller-in-Iff.ensures.walk c.in_ok-g-in-Iff.ensures c.in_ok-f-in-Iff.ensures))

pub build-returns-in_ok-z-in-All : goal.build-returns-in_ok-z-in-All
build-returns-in_ok-z-in-All t c = rw c.in-All.is (substitutes-all _ _ _ _ _ _ _ _ _ c.in_ok-z-in-All.ensures)

pub build-returns-in_ok-z-in-Ex : goal.build-returns-in_ok-z-in-Ex
build-returns-in_ok-z-in-Ex t c = rw c.in-Ex.is (substitutes-ex _ _ _ _ _ _ _ _ _ c.in_ok-z-in-Ex.ensures)

pub build-returns-in_ok-p-in-All2 : goal.build-returns-in_ok-p-in-All2
build-returns-in_ok-p-in-All2 t c = rw (c.in-All2.is, c.in_ok-p-in-All2.ensures) (substitutes-all2 _ _ _ _ _ _ _ _ c.in_ok-f-in-All2.ensures)

pub build-returns-in_ok-p-in-Ex2 : goal.build-returns-in_ok-p-in-Ex2
build-returns-in_ok-p-in-Ex2 t c = rw (c.in-Ex2.is, c.in_ok-p-in-Ex2.ensures) (substitutes-ex2 _ _ _ _ _ _ _ _ c.in_ok-f-in-Ex2.ensures)

pub build_body-returns-then-not-found : goal.build_body-returns-then-not-found
build_body-returns-then-not-found t c = body-kept _ _ _ _ _ _ _ _ _ (from_not c.args.found.catches c.if-not-found.true) c.in_ok-form.ensures

pub build_body-returns : goal.build_body-returns
build_body-returns t c =
    let a1 = c.number.new.walk in
    let b = c.build_boxed-2.new.walk in
    let a2 : Walk = record { hidden = a1.hidden; renamed = c.set.new.self; catches = a1.catches; uses = a1.uses } in
    let d : Walk = record { hidden = b.hidden; renamed = c.set-2.new.self; catches = b.catches; uses = b.uses } in
    body-renamed c.args.kept.now c.args.binding.now c.args.walk.now a1 a2 b d c.args.tally.now c.number.new.tally c.exchange.new.tally c.args.found c.args.y c.in_ok-num.num c.args.form.now
    c.in_ok-form-2.form c.requires (from_not_false c.args.found.catches c.if-not-found.false) c.in_ok-num.ensures.number c.in_ok-num.ensures.walk c.in_ok-exchange.ensures refl c.in_ok-set.ensures
    refl refl c.in_ok-form-2.ensures refl c.in_ok-set-2.ensures refl refl

pub build_below-returns : goal.build_below-returns
build_below-returns t c =
    let a1 = c.pop-found.new.self in
    let b = c.build_body.new.walk in
    let a2 : Walk = record { hidden = c.set.new.self; renamed = c.set-2.new.self; catches = a1.catches; uses = a1.uses } in
    let d : Walk = record { hidden = c.set-3.new.self; renamed = c.set-4.new.self; catches = b.catches; uses = b.uses } in
    body-below c.args.kept.now c.args.binding.now c.args.walk.now a1 a2 b d c.args.tally.now c.leave_binder.new.tally c.pop-found.result c.args.y c.in_ok-z.z c.args.form.now c.in_ok-z.form
    c.pop-found.ensures.catches c.pop-found.ensures.count c.pop-found.ensures.on_top c.pop-found.ensures.used c.pop-found.ensures.hidden c.pop-found.ensures.renamed c.in_ok-leave_binder.ensures
    c.in_ok-set.ensures c.in_ok-set-2.ensures refl refl c.in_ok-z.ensures
    (c.in_ok-set-3.ensures ∙ ap (changed (marked b.hidden) c.args.y.num) c.has-was_hidden.ensures)
    (c.in_ok-set-4.ensures ∙ ap (changed (new_var b.renamed) c.args.y.num) c.of-outer.ensures) refl refl
