use Rattle.std.proofs.Common.{◌≡◌, take}
use Rattle.soqe_dls.specs.ShownCases.{by_vars}
use Rattle.soqe_dls.proofs.shown_value.bind_each.Given as goal

abbrev pub invariant-loop-place : goal.invariant-loop-place
invariant-loop-place l = l.binding ≡ by_vars (take l.place l.old) (take l.place l.new)
