use Rattle.std.proofs.Common.{subst}
use Rattle.soqe_parse.specs.Items.{State}
use Rattle.soqe_parse.specs.Stack.{state_of}
use Rattle.soqe_parse.specs.Stages.{declared_of, Reaches}
use Rattle.soqe_parse.proofs.Staged.{step-goal}
use Rattle.soqe_parse.proofs.problem.goal_stepped.Goals as goal

pub returns-in_default : goal.returns-in_default
returns-in_default c =
    subst (λ (x : State). Reaches c.went_on.new.items c.went_on.result x)
    (step-goal (declared_of c.args.items.now) (state_of c.args.stack.items c.args.mode) c.args.next c.in_default.not-Semicolon) c.went_on.ensures
