use Rattle.soqe_syntax.specs.Shapes.{view}
use Rattle.soqe_text.specs.Bare.{Wraps}
use Rattle.soqe_text.proofs.bare.bare.Given as goal

abbrev pub invariant-loop-inner : goal.invariant-loop-inner
invariant-loop-inner l = Wraps (view l.initial.inner) l.negations (view l.inner)
