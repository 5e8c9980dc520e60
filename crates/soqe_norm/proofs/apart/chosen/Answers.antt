use Rattle.std.proofs.lemmas.List.{take_more}
use Rattle.soqe_number.specs.Marks.{marked}
use Rattle.soqe_norm.proofs.Choosing.{chosen_none, chosen_more}
use Rattle.soqe_norm.proofs.apart.chosen.Goals as goal

pub loop-number-init : goal.loop-number-init
loop-number-init c = rw c.new-new.ensures (chosen_none (marked c.args.taken.now) (marked c.args.used.now) c.args.old.now c.requires)

pub loop-number-preserved : goal.loop-number-preserved
loop-number-preserved c =
    rw (take_more c.args.old.now c.loop-number.number-index 0 c.loop-number-test.true, c.in_ok-push.ensures.ok)
    (chosen_more (marked c.args.taken.now) c.args.old.now _ c.loop-number.new (marked c.loop-number.taken) (marked c.loop-number.used) c.loop-number.next _ c.number_for-number.result
    (marked c.set.new.self) (marked c.set-in-loop-number.new.self) c.number_for-number.new.next c.loop-number.invariant
    c.number_for-number.ensures.number c.number_for-number.ensures.next c.in_ok-set.ensures c.in_ok-set-2.ensures)
