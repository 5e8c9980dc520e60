use Rattle.std.proofs.Common.{◌≡◌, take}
use Rattle.soqe_form.proofs.lists.PVars.copy.Given as goal

abbrev pub invariant-loop-pred : goal.invariant-loop-pred
invariant-loop-pred l = l.copy ≡ take l.pred-index l.self
