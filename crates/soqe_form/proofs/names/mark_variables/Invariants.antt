use Rattle.std.proofs.Common.{take}
use Rattle.soqe_form.specs.FreeVars.{is_among}
use Rattle.soqe_number.specs.Marks.{Adds}
use Rattle.soqe_form.proofs.names.mark_variables.Given as goal

abbrev pub invariant-loop-variable : goal.invariant-loop-variable
invariant-loop-variable l = Adds (λ n. is_among (take l.variable-index l.variables) n) l.fn.marks l.marks
