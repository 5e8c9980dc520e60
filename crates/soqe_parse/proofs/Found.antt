-- From the machine's run over the tokens of a text to the shape of the text, or to the place of its fault (a formula's:
-- FormFound).
use Rattle.std.proofs.Common.{◌≡◌, ℕ, ◌<◌, List, [], length, take, get_or, map, Option, Some, None, Result, Ok, Err, sym, ap, subst, ◌∙◌}
use Rattle.std.specs.Prelude.{IfOk}
use Rattle.std.proofs.lemmas.Option.{slice_get-get_or}
use Rattle.soqe_lex.specs.declared.token.Token.{Token}
use Rattle.soqe_lex.specs.Lexical.{Lexed}
use Rattle.soqe_syntax.specs.declared.shape.Item.{Item}
use Rattle.soqe_syntax.specs.Pieces.{piece_of, HasProblem}
use Rattle.soqe_parse.specs.declared.read.ShapeError.{ShapeError}
use Rattle.soqe_parse.specs.declared.read.ShapeError.TheVariants as errors
use Rattle.soqe_parse.specs.declared.shape.ProblemShape.{ProblemShape}
use Rattle.soqe_parse.specs.declared.stage.Stage.{Stage}
use Rattle.soqe_parse.specs.Faults.{IsFaultIn, IsFaultAt}
use Rattle.soqe_parse.specs.Items.{Between, Dead, step, run, finish}
use Rattle.soqe_parse.specs.ProblemShapes.{problem_view}
use Rattle.soqe_parse.specs.Stages.{stage_of}
use Rattle.soqe_parse.specs.Reading.{OnShapeSyntax, ReadGives}
use Rattle.soqe_parse.proofs.Staged.{stage-alive, goes-on}
use Rattle.soqe_parse.proofs.Places.{dead-token, stopped-byte, early-end}
use Rattle.soqe_parse.proofs.ProblemSound.{parse-sound}

-- the token at which the machine dies
pub dies : (bytes : List ℕ) (ts : List Token) (i : ℕ) (d : Token) (items : List Item) (stage : Stage) → i < length ts
    → stage_of items stage ≡ run (Between []) (map (piece_of bytes) (take i ts)) → step (stage_of items stage) (piece_of bytes (get_or ts i d)) ≡ Dead
    → (stop : Option ℕ) → IsFaultIn bytes ts stop (get_or ts i d).start
dies bytes ts i d items stage lt so_far dead stop =
    dead-token bytes ts stop i (get_or ts i d) (slice_get-get_or ts i d lt) (λ e. stage-alive items stage (so_far ∙ e))
    (sym (goes-on bytes ts i d (stage_of items stage) Dead lt so_far (sym dead)))

-- the byte that begins no token
pub stops : (bytes : List ℕ) (ts : List Token) (at : ℕ) (items : List Item) (stage : Stage) → stage_of items stage ≡ run (Between []) (map (piece_of bytes) ts)
    → IsFaultIn bytes ts (Some at) at
stops bytes ts at items stage ran = stopped-byte bytes ts at (λ e. stage-alive items stage (ran ∙ e))

-- the end that comes too early
pub ends : (bytes : List ℕ) (ts : List Token) (items : List Item) (stage : Stage) → stage_of items stage ≡ run (Between []) (map (piece_of bytes) ts)
    → finish (stage_of items stage) ≡ None → IsFaultIn bytes ts None (length bytes)
ends bytes ts items stage ran none = early-end bytes ts (λ e. stage-alive items stage (ran ∙ e)) (ap finish (sym ran) ∙ none)

pub is_found : (r : Result ProblemShape ShapeError) (bytes : List ℕ) (ts : List Token) (stop : Option ℕ) → Lexed 0 bytes ts stop → ReadGives r bytes ts stop
    → IfOk r (λ s. HasProblem bytes (problem_view s))
is_found (Ok s) bytes ts stop lexed gives =
    record { tokens = ts; lexed = subst (λ (o : Option ℕ). Lexed 0 bytes ts o) gives.0 lexed; shape = parse-sound (map (piece_of bytes) ts) (problem_view s) gives.1 }
is_found (Err e) bytes ts stop lexed gives = tt

pub is_place : (r : Result ProblemShape ShapeError) (bytes : List ℕ) (ts : List Token) (stop : Option ℕ) → Lexed 0 bytes ts stop → ReadGives r bytes ts stop
    → OnShapeSyntax r (λ at. IsFaultAt bytes at)
is_place (Ok s) bytes ts stop lexed gives = tt
is_place (Err errors.Memory) bytes ts stop lexed gives = tt
is_place (Err (errors.Syntax at)) bytes ts stop lexed gives = record { tokens = ts; stop = stop; lexed = lexed; fault = gives }
