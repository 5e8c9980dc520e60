use Rattle.std.proofs.Common.{◌∙◌, sym, subst, ◌+◌}
use Rattle.soqe_number.specs.Marks.{marked}
use Rattle.soqe_number.specs.Unkept.{AreFirst}
use Rattle.soqe_number.proofs.FirstUnkept.{HasBelow, first-more, has-more, has-passed}
use Rattle.soqe_number.proofs.unkept.unmarked_below.Goals as goal
use Rattle.soqe_number.proofs.unkept.unmarked_below.Goals.{then-not-has+in_ok-push, else-not-has}

pub loop-n-preserved : goal.loop-n-preserved
loop-n-preserved c =
    let p = marked c.args.marks.now in
    let ns = c.loop-n.others in
    let n = c.loop-n.n in
    elim c.if-not-has.branch [
      | then-not-has+in_ok-push w ↦
          let none = sym c.has.ensures ∙ w.if-not-has.true in
          let is = w.others-is ∙ w.in_ok-push.ensures.ok in
          (subst (AreFirst p) (sym is) (first-more p ns n none c.loop-n.invariant.0 c.loop-n.invariant.1), subst (λ l. HasBelow p l (n + 1)) (sym is) (has-more p ns n c.loop-n.invariant.1))
      | else-not-has w ↦
          let one = sym c.has.ensures ∙ w.if-not-has.false in
          (subst (AreFirst p) (sym w.others-is) c.loop-n.invariant.0, subst (λ l. HasBelow p l (n + 1)) (sym w.others-is) (has-passed p ns n one c.loop-n.invariant.1))
    ]
