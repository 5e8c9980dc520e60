use Rattle.std.proofs.Common.{length, get_or, ap, arith}
use Rattle.soqe_number.proofs.Counted.{times-more}
use Rattle.soqe_number.proofs.Tallied.{gains-both}
use Rattle.soqe_number.proofs.tally.Tally.add_all.Goals as goal

pub loop-n-preserved : goal.loop-n-preserved
loop-n-preserved c =
    gains-both _ _ _ _ _ _
    (λ m. times-more m c.args.nums.now c.loop-n.n-index _ (omega (arith, c.loop-n-test.true, ap length c.as_slice-n-items.ensures))
    (ap (λ l. get_or l c.loop-n.n-index 0) c.as_slice-n-items.ensures))
    c.loop-n.invariant c.in_ok-add.ensures
