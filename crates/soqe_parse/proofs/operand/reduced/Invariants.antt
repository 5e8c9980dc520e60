use Rattle.std.proofs.Common.{◌≡◌, length}
use Rattle.soqe_syntax.specs.Shapes.{view}
use Rattle.soqe_parse.specs.Machine.{reduce}
use Rattle.soqe_parse.specs.Stack.{stack_of}
use Rattle.soqe_parse.proofs.operand.reduced.Given as goal

abbrev pub invariant-loop-pending : goal.invariant-loop-pending
invariant-loop-pending l = reduce l.level (stack_of l.stack.items) (view l.shape) ≡ reduce l.level (stack_of l.initial.stack.items) (view l.initial.shape)

abbrev pub decreases-loop-pending : goal.decreases-loop-pending
decreases-loop-pending l = length l.stack.items
