use Rattle.std.proofs.Common.{◌+◌, refl, arith}
use Rattle.soqe_number.proofs.Pigeons.{least_at, least_of_many, found_more}
use Rattle.soqe_number.proofs.unused.least_by_windows.Goals as goal

pub returns-then-count-marks : goal.returns-then-count-marks
returns-then-count-marks c =
    let found = c.count_from-count.ensures in
    least_at c.args.used.now c.loop-base.base c.count_from-count.result (c.loop-base.base + c.count_from-count.result) refl
    c.loop-base.invariant.found found.before (found.unused (omega (arith, found.length)))

pub loop-base-preserved : goal.loop-base-preserved
loop-base-preserved c =
    let found = c.count_from-count.ensures in
    record {
      width = omega (arith, found.length);
      found = found_more c.args.used.now c.loop-base.base c.count_from-count.result (c.loop-base.base + c.count_from-count.result) refl
          c.loop-base.invariant.found found.before;
    }

pub returns : goal.returns
returns c = least_of_many c.args.used.now c.loop-base.base (omega arith) c.loop-base.invariant.found
