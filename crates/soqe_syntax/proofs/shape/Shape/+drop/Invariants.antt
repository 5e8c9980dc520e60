use Rattle.std.proofs.Common.{◌≤◌}
use Rattle.soqe_syntax.specs.declared.shape.Shape.{size-Shape}
use Rattle.soqe_syntax.proofs.shape.Shape.+drop.Given as goal

-- what is left is no deeper than the whole
abbrev pub invariant-loop-self : goal.invariant-loop-self
invariant-loop-self l = size-Shape l.self ≤ size-Shape l.initial.self
