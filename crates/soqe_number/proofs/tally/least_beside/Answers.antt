use Rattle.soqe_number.proofs.Tallied.{beside-right}
use Rattle.soqe_number.proofs.tally.least_beside.Goals as goal

pub returns : goal.returns
returns c =
    beside-right c.args.kept.now c.args.nums.now c.in_ok-tally.tally c.least-num.result (c.in_ok-tally.ensures c.args.kept.now) c.least-num.ensures.least
