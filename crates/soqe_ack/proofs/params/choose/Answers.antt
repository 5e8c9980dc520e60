use Rattle.std.proofs.lemmas.List.{take_more}
use Rattle.soqe_number.specs.Marks.{marked}
use Rattle.soqe_ack.proofs.ParameterChoice.{chosen_more}
use Rattle.soqe_ack.proofs.params.choose.Goals as goal

pub loop-sort-preserved : goal.loop-sort-preserved
loop-sort-preserved c =
    rw (take_more c.args.sorts.now c.loop-sort.sort-index 0 c.loop-sort-test.true, c.in_ok-push.ensures.ok)
    (chosen_more (marked c.args.used.now) _ c.loop-sort.params (marked c.loop-sort.used) (marked c.set.new.self) c.loop-sort.next _ c.least_unmarked_from-num.result
    c.loop-sort.invariant c.least_unmarked_from-num.ensures c.in_ok-set.ensures)
