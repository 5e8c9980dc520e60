use Rattle.soqe_dls.proofs.FoldedForms.{Taken}
use Rattle.soqe_dls.proofs.taking.take_vars.Given as goal

abbrev pub invariant-loop : goal.invariant-loop
invariant-loop l = Taken l.fn.form l.rest l.vars l.count l.counter
