use Rattle.std.proofs.Common.{◌≡◌, take}
use Rattle.soqe_dls.proofs.steps.DlsSteps.copy.Given as goal

abbrev pub invariant-loop-step : goal.invariant-loop-step
invariant-loop-step l = l.copy ≡ take l.step-index l.self
