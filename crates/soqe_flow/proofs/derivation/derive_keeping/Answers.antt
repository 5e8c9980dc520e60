use Rattle.std.proofs.Common.{IfOk, subst}
use Rattle.soqe_deriv.specs.Valid.{goal_of, simplified}
use Rattle.soqe_flow.specs.Running.{HasRun}
use Rattle.soqe_flow.proofs.derivation.derive_keeping.Goals as goal

pub returns : goal.returns
returns c =
    subst (λ k. IfOk c.run_blocks.result (λ run. HasRun k c.args.wanted (simplified k (goal_of c.args.problem.now)) run.lines run.stop)) c.requires
    (subst (λ g. IfOk c.run_blocks.result (λ run. HasRun c.args.keep.now c.args.wanted (simplified c.args.keep.now g) run.lines run.stop)) c.goal.ensures c.run_blocks.ensures)
