-- From the run over the tokens of a formula's text to its shape, or to the place of its fault, as for problems (Found).
use Rattle.std.proofs.Common.{◌≡◌, ℕ, ◌+◌, ◌<◌, List, [], ◌∷◌, length, take, get_or, map, Option, Some, None, Result, Ok, Err, sym, ap, subst, ◌∙◌}
use Rattle.std.specs.Prelude.{IfOk}
use Rattle.std.proofs.lemmas.List.{map-append, take_more}
use Rattle.std.proofs.lemmas.Option.{slice_get-get_or}
use Rattle.soqe_lex.specs.declared.token.Token.{Token}
use Rattle.soqe_lex.specs.Lexical.{Lexed}
use Rattle.soqe_syntax.specs.declared.shape.Shape.{Shape}
use Rattle.soqe_syntax.specs.Pieces.{piece_of}
use Rattle.soqe_syntax.specs.Shapes.{view}
use Rattle.soqe_parse.specs.declared.frame.Frame.{Frame}
use Rattle.soqe_parse.specs.declared.frame.Mode.{Mode}
use Rattle.soqe_parse.specs.declared.frame.Mode.TheVariants as modes
use Rattle.soqe_parse.specs.declared.read.ShapeError.{ShapeError}
use Rattle.soqe_parse.specs.declared.read.ShapeError.TheVariants as errors
use Rattle.soqe_parse.specs.Formulas.{HasForm, IsFormFaultIn, IsFormFaultAt}
use Rattle.soqe_parse.specs.Machine.{State, Want, Dead, step, run, finish}
use Rattle.soqe_parse.specs.Reading.{OnShapeSyntax, FormReadGives}
use Rattle.soqe_parse.specs.Stack.{state_of}
use Rattle.soqe_parse.proofs.FormulaComplete.{run-append}
use Rattle.soqe_parse.proofs.FormPlaces.{dead-token, stopped-byte, early-end, form-found}

-- a state of the code is not the dead one
state-alive : (stack : List Frame) (m : Mode) → state_of stack m ≡ Dead → ⊥
state-alive stack modes.Want e = cc
state-alive stack (modes.Have s) e = cc
state-alive stack (modes.Quantified q) e = cc
state-alive stack (modes.Named q x) e = cc
state-alive stack (modes.Sorting q x) e = cc
state-alive stack (modes.Sorted q x s) e = cc
state-alive stack (modes.WantTerm side calls) e = cc
state-alive stack (modes.HaveTerm side calls t) e = cc
state-alive stack (modes.Quantified2 q) e = cc
state-alive stack (modes.Named2 q x) e = cc
state-alive stack (modes.WantSort q x ss) e = cc
state-alive stack (modes.HaveSort q x ss) e = cc
state-alive stack (modes.Sorted2 q x ss) e = cc

run-next : (bytes : List ℕ) (ts : List Token) (i : ℕ) (d : Token) → i < length ts
    → run (Want []) (map (piece_of bytes) (take (i + 1) ts)) ≡ step (run (Want []) (map (piece_of bytes) (take i ts))) (piece_of bytes (get_or ts i d))
run-next bytes ts i d lt =
    ap (λ (us : List Token). run (Want []) (map (piece_of bytes) us)) (take_more ts i d lt)
    ∙ ap (run (Want [])) (map-append (piece_of bytes) (take i ts) (get_or ts i d ∷ []))
    ∙ run-append (map (piece_of bytes) (take i ts)) (piece_of bytes (get_or ts i d) ∷ []) (Want [])

-- one more token
pub goes-on : (bytes : List ℕ) (ts : List Token) (i : ℕ) (d : Token) (x y : State) → i < length ts
    → x ≡ run (Want []) (map (piece_of bytes) (take i ts)) → y ≡ step x (piece_of bytes (get_or ts i d))
    → y ≡ run (Want []) (map (piece_of bytes) (take (i + 1) ts))
goes-on bytes ts i d x y lt so_far next =
    next ∙ ap (λ (z : State). step z (piece_of bytes (get_or ts i d))) so_far ∙ sym (run-next bytes ts i d lt)

-- the token at which the machine dies
pub dies : (bytes : List ℕ) (ts : List Token) (i : ℕ) (d : Token) (stack : List Frame) (m : Mode) → i < length ts
    → state_of stack m ≡ run (Want []) (map (piece_of bytes) (take i ts)) → step (state_of stack m) (piece_of bytes (get_or ts i d)) ≡ Dead
    → (stop : Option ℕ) → IsFormFaultIn bytes ts stop (get_or ts i d).start
dies bytes ts i d stack m lt so_far dead stop =
    dead-token bytes ts stop i (get_or ts i d) (slice_get-get_or ts i d lt) (λ e. state-alive stack m (so_far ∙ e))
    (sym (goes-on bytes ts i d (state_of stack m) Dead lt so_far (sym dead)))

-- the byte that begins no token
pub stops : (bytes : List ℕ) (ts : List Token) (at : ℕ) (stack : List Frame) (m : Mode) → state_of stack m ≡ run (Want []) (map (piece_of bytes) ts)
    → IsFormFaultIn bytes ts (Some at) at
stops bytes ts at stack m ran = stopped-byte bytes ts at (λ e. state-alive stack m (ran ∙ e))

-- the end that comes too early
pub ends : (bytes : List ℕ) (ts : List Token) (stack : List Frame) (m : Mode) → state_of stack m ≡ run (Want []) (map (piece_of bytes) ts)
    → finish (state_of stack m) ≡ None → IsFormFaultIn bytes ts None (length bytes)
ends bytes ts stack m ran none = early-end bytes ts (λ e. state-alive stack m (ran ∙ e)) (ap finish (sym ran) ∙ none)

pub is_form : (r : Result Shape ShapeError) (bytes : List ℕ) (ts : List Token) (stop : Option ℕ) → Lexed 0 bytes ts stop → FormReadGives r bytes ts stop
    → IfOk r (λ s. HasForm bytes (view s))
is_form (Ok s) bytes ts stop lexed gives = form-found bytes ts (view s) (subst (λ (o : Option ℕ). Lexed 0 bytes ts o) gives.0 lexed) gives.1
is_form (Err e) bytes ts stop lexed gives = tt

pub is_form_place : (r : Result Shape ShapeError) (bytes : List ℕ) (ts : List Token) (stop : Option ℕ) → Lexed 0 bytes ts stop → FormReadGives r bytes ts stop
    → OnShapeSyntax r (λ at. IsFormFaultAt bytes at)
is_form_place (Ok s) bytes ts stop lexed gives = tt
is_form_place (Err errors.Memory) bytes ts stop lexed gives = tt
is_form_place (Err (errors.Syntax at)) bytes ts stop lexed gives = record { tokens = ts; stop = stop; lexed = lexed; fault = gives }
