-- The code's values as states of the machine for formulas.
use Rattle.std.specs.Prelude.{◌≡◌, List, map, reverse, Option, Some, None, Result, Ok, Err}
use Rattle.soqe_syntax.specs.declared.piece.Span.{Span}
use Rattle.soqe_syntax.specs.declared.shape.Exprs.{Exprs}
use Rattle.soqe_syntax.specs.Grammar.{Terms, Tree}
use Rattle.soqe_syntax.specs.Shapes.{term_view, terms_view, view}
use Rattle.soqe_parse.specs.declared.frame.Frame.{Frame}
use Rattle.soqe_parse.specs.declared.frame.Frame.TheVariants as frames
use Rattle.soqe_parse.specs.declared.frame.Mode.{Mode}
use Rattle.soqe_parse.specs.declared.frame.Mode.TheVariants as modes
use Rattle.soqe_parse.specs.declared.frame.LeftSide.{LeftSide}
use Rattle.soqe_parse.specs.declared.frame.OpenCall.{OpenCall}
use Rattle.soqe_parse.specs.declared.frame.StepError.{StepError}
use Rattle.soqe_parse.specs.declared.frame.StepError.TheVariants as errors
use Rattle.soqe_parse.specs.Machine.{Side, Call, Pending, InParen, InNot, InBind, InBinary, InBind2, State, Want, Have, Quantified, Named, Sorting, Sorted, WantTerm, HaveTerm, Quantified2, Named2, WantSort, HaveSort, Sorted2, Dead, Open}

-- the arguments that were read
abbrev pub done_view : Option Exprs → Option (Terms Span)
done_view None = None
done_view (Some ts) = Some (terms_view ts)

-- the left side, where one was read
abbrev pub side_view : Option LeftSide → Option Side
side_view None = None
side_view (Some s) = Some (record { negated = s.negated; sign = s.sign; term = term_view s.term })

-- a name with the arguments that were read
abbrev pub call_view : OpenCall → Call
call_view c = record { name = c.name; done = done_view c.done }

-- what waits
abbrev pub frame : Frame → Pending
frame frames.InParen = InParen
frame frames.InNot = InNot
frame (frames.InBind b) = InBind b.value.quantifier b.value.name b.value.sort
frame (frames.InBinary op l) = InBinary op (view l.value)
frame (frames.InBind2 b) = InBind2 b.value.quantifier b.value.name b.value.sorts

-- the stack, whose top is the last item
unfoldable pub stack_of : List Frame → List Pending
stack_of items = reverse (map frame items)

-- the calls, the innermost of which is the last item
unfoldable pub calls_of : List OpenCall → List Call
calls_of items = reverse (map call_view items)

-- a stack with the operand on top of it
abbrev pub open_of : List Frame → Tree Span → Open
open_of items s = record { stack = stack_of items; tree = s }

-- the machine's state
abbrev pub state_of : List Frame → Mode → State
state_of items modes.Want = Want (stack_of items)
state_of items (modes.Have s) = Have (stack_of items) (view s)
state_of items (modes.Quantified q) = Quantified (stack_of items) q
state_of items (modes.Named q x) = Named (stack_of items) q x
state_of items (modes.Sorting q x) = Sorting (stack_of items) q x
state_of items (modes.Sorted q x s) = Sorted (stack_of items) q x s
state_of items (modes.WantTerm side calls) = WantTerm (stack_of items) (side_view side) (calls_of calls.items)
state_of items (modes.HaveTerm side calls t) = HaveTerm (stack_of items) (side_view side) (calls_of calls.items) (term_view t)
state_of items (modes.Quantified2 q) = Quantified2 (stack_of items) q
state_of items (modes.Named2 q x) = Named2 (stack_of items) q x
state_of items (modes.WantSort q x ss) = WantSort (stack_of items) q x ss
state_of items (modes.HaveSort q x ss) = HaveSort (stack_of items) q x ss
state_of items (modes.Sorted2 q x ss) = Sorted2 (stack_of items) q x ss

-- What a step returned is the state x, unless memory ran out.
abbrev pub Gives : List Frame → Result Mode StepError → State → Type 0
Gives items (Ok m) x = state_of items m ≡ x
Gives items (Err errors.Memory) x = Unit {0}
Gives items (Err errors.Dead) x = x ≡ Dead

-- a state inside a binder of a variable
abbrev pub IsVariableBinder : Mode → Type 0
IsVariableBinder (modes.Quantified q) = Unit {0}
IsVariableBinder (modes.Named q x) = Unit {0}
IsVariableBinder (modes.Sorting q x) = Unit {0}
IsVariableBinder (modes.Sorted q x s) = Unit {0}
IsVariableBinder _ = ⊥

-- a state inside a binder of a predicate
abbrev pub IsPredicateBinder : Mode → Type 0
IsPredicateBinder modes.Want = ⊥
IsPredicateBinder (modes.Have s) = ⊥
IsPredicateBinder (modes.Quantified q) = ⊥
IsPredicateBinder (modes.Named q x) = ⊥
IsPredicateBinder (modes.Sorting q x) = ⊥
IsPredicateBinder (modes.Sorted q x s) = ⊥
IsPredicateBinder (modes.WantTerm side calls) = ⊥
IsPredicateBinder (modes.HaveTerm side calls t) = ⊥
IsPredicateBinder _ = Unit {0}
