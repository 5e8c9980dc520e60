use Rattle.std.proofs.Common.{◌≤◌, ◌-◌, length, reverse}
use Rattle.soqe_dls.proofs.Running.{Leads}
use Rattle.soqe_dls.proofs.elimination.run.Given as goal

abbrev pub invariant-loop-case : goal.invariant-loop-case
invariant-loop-case l = Leads l.keep l.pred l.fn.cases (reverse l.left.items) (l.count - length l.left.items) l.steps l.so_far × (length l.left.items ≤ l.count)

abbrev pub decreases-loop-case : goal.decreases-loop-case
decreases-loop-case l = length l.left.items
