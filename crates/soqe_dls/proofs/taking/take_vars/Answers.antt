use Rattle.std.proofs.Common.{List, ◌+◌, ◌-◌, sym, subst, arith}
use Rattle.soqe_term.specs.declared.term.Var.{Var}
use Rattle.soqe_dls.proofs.FoldedForms.{Taken, front-is-existential, taken-more}
use Rattle.soqe_dls.proofs.taking.take_vars.Goals as goal

pub below-body-requires : goal.below-body-requires
below-body-requires c = front-is-existential (c.args.count - c.loop.counter) c.loop.rest c.loop.invariant.left (omega arith)

pub loop-preserved : goal.loop-preserved
loop-preserved c =
    subst (λ (vars : List Var). Taken c.args.form c.below-body.result.1 vars c.args.count (c.loop.counter + 1)) (sym c.in_ok-push.ensures.ok)
    (taken-more c.args.form c.loop.rest c.below-body.result.1 c.loop.vars c.below-body.result.0 c.args.count c.loop.counter (omega arith) c.below-body.ensures c.loop.invariant)
