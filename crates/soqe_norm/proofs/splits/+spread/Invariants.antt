-- What is added already and the pairings of the cases that are left make all pairings; the last of the vector comes first.
use Rattle.std.proofs.Common.{◌≡◌, ◌++◌, ◌+◌, ◌*◌, length, reverse}
use Rattle.soqe_norm.specs.Cases.{pairings}
use Rattle.soqe_norm.specs.Splits.{cases_in}
use Rattle.soqe_norm.proofs.CaseSplits.{split_depth}
use Rattle.soqe_norm.proofs.splits.+spread.Given as goal

abbrev pub decreases-spread : goal.decreases-spread
decreases-spread l = 3 * split_depth l.split

abbrev pub decreases-spread_each : goal.decreases-spread_each
decreases-spread_each l = 3 * split_depth l.split + 2

abbrev pub decreases-spread_copies : goal.decreases-spread_copies
decreases-spread_copies l = 3 * split_depth l.split.now + 1

abbrev pub invariant-spread_copies-loop-case : goal.invariant-spread_copies-loop-case
invariant-spread_copies-loop-case l = l.fn.out.items ++ pairings l.fn.cases.items (cases_in l.split) ≡ l.out.items ++ pairings (reverse l.left.items) (cases_in l.split)

abbrev pub decreases-spread_copies-loop-case : goal.decreases-spread_copies-loop-case
decreases-spread_copies-loop-case l = length l.left.items
