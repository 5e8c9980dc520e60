-- The problem that a shape holds.
use Rattle.std.specs.Prelude.{map}
use Rattle.soqe_syntax.specs.declared.piece.Span.{Span}
use Rattle.soqe_syntax.specs.Grammar.{Problem}
use Rattle.soqe_syntax.specs.Shapes.{view, declared_view}
use Rattle.soqe_parse.specs.declared.shape.ProblemShape.{ProblemShape}

-- a problem as it is written, from what was read
abbrev pub problem_view : ProblemShape → Problem Span
problem_view s = record { declared = map declared_view s.declared; goal = view s.goal }
