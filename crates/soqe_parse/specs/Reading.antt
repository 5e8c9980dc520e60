-- What the reader answers.
use Rattle.std.specs.Prelude.{◌≡◌, ℕ, List, [], map, Option, Some, None, Result, Ok, Err}
use Rattle.soqe_lex.specs.declared.token.Token.{Token}
use Rattle.soqe_syntax.specs.declared.shape.Item.{Item}
use Rattle.soqe_syntax.specs.declared.shape.Shape.{Shape}
use Rattle.soqe_syntax.specs.Pieces.{piece_of}
use Rattle.soqe_syntax.specs.Shapes.{view}
use Rattle.soqe_parse.specs.declared.frame.Frame.{Frame}
use Rattle.soqe_parse.specs.declared.frame.Mode.{Mode}
use Rattle.soqe_parse.specs.declared.read.ShapeError.{ShapeError}
use Rattle.soqe_parse.specs.declared.read.ShapeError.TheVariants as errors
use Rattle.soqe_parse.specs.declared.shape.ProblemShape.{ProblemShape}
use Rattle.soqe_parse.specs.declared.stage.Stage.{Stage}
use Rattle.soqe_parse.specs.Faults.{IsFaultIn}
use Rattle.soqe_parse.specs.Formulas.{IsFormFaultIn}
use Rattle.soqe_parse.specs.Items.{Between, run, parse}
use Rattle.soqe_parse.specs.Machine as formula
use Rattle.soqe_parse.specs.ProblemShapes.{problem_view}
use Rattle.soqe_parse.specs.Stack.{state_of}
use Rattle.soqe_parse.specs.Stages.{stage_of}

-- P holds of the place of a syntax fault.
abbrev pub OnShapeSyntax : {T : Type 0} → Result T ShapeError → (ℕ → Type 0) → Type 0
OnShapeSyntax (Ok s) P = Unit {0}
OnShapeSyntax (Err errors.Memory) P = Unit {0}
OnShapeSyntax (Err (errors.Syntax at)) P = P at

-- The machine went over all tokens, or the fault is at the token that stopped it, unless memory ran out.
abbrev pub RanGives : List Item → Result Stage ShapeError → List ℕ → List Token → Type 0
RanGives items (Ok stage) bytes tokens = stage_of items stage ≡ run (Between []) (map (piece_of bytes) tokens)
RanGives items (Err errors.Memory) bytes tokens = Unit {0}
RanGives items (Err (errors.Syntax at)) bytes tokens = (stop : Option ℕ) → IsFaultIn bytes tokens stop at

-- The tokens are the problem, or their fault is there, unless memory ran out.
abbrev pub ReadGives : Result ProblemShape ShapeError → List ℕ → List Token → Option ℕ → Type 0
ReadGives (Ok s) bytes tokens stop = (stop ≡ None) × (parse (map (piece_of bytes) tokens) ≡ Some (problem_view s))
ReadGives (Err errors.Memory) bytes tokens stop = Unit {0}
ReadGives (Err (errors.Syntax at)) bytes tokens stop = IsFaultIn bytes tokens stop at

-- ---- the same for a formula by itself

-- The machine for formulas went over all tokens, or the fault is at the token that stopped it, unless memory ran out.
abbrev pub FormRanGives : List Frame → Result Mode ShapeError → List ℕ → List Token → Type 0
FormRanGives stack (Ok mode) bytes tokens = state_of stack mode ≡ formula.run (formula.Want []) (map (piece_of bytes) tokens)
FormRanGives stack (Err errors.Memory) bytes tokens = Unit {0}
FormRanGives stack (Err (errors.Syntax at)) bytes tokens = (stop : Option ℕ) → IsFormFaultIn bytes tokens stop at

-- The tokens are the formula, or their fault is there, unless memory ran out.
abbrev pub FormReadGives : Result Shape ShapeError → List ℕ → List Token → Option ℕ → Type 0
FormReadGives (Ok s) bytes tokens stop = (stop ≡ None) × (formula.parse (map (piece_of bytes) tokens) ≡ Some (view s))
FormReadGives (Err errors.Memory) bytes tokens stop = Unit {0}
FormReadGives (Err (errors.Syntax at)) bytes tokens stop = IsFormFaultIn bytes tokens stop at
