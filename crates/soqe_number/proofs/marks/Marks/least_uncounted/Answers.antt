use Rattle.std.proofs.Common.{ap, length, arith}
use Rattle.soqe_number.proofs.Marked.{length-as}
use Rattle.soqe_number.proofs.Counted.{least_of_both}
use Rattle.soqe_number.proofs.marks.Marks.least_uncounted.Goals as goal

pub returns : goal.returns
returns c =
    least_of_both c.args.self.now c.args.counts.now _ (omega (arith, c.len.ensures.len, c.len-2.ensures.len, length-as c.self.inside.marks, ap length c.self.view_is))
    (λ k l. c.loop-n.invariant k (omega (arith, l, c.loop-n-test.false)))
