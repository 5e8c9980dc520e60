-- Reading a formula piece by piece, with a stack of what waits for an operand.
use Rattle.std.specs.Prelude.{ℕ, ◌++◌, Bool, true, false, cond, List, [], ◌∷◌, Option, Some, None, nat_lt}
use Rattle.soqe_syntax.specs.declared.piece.Span.{Span}
use Rattle.soqe_syntax.specs.declared.piece.Quantifier.{Quantifier}
use Rattle.soqe_syntax.specs.declared.piece.Operator.{Operator}
use Rattle.soqe_syntax.specs.declared.piece.Piece.{Piece}
use Rattle.soqe_syntax.specs.declared.piece.Piece.TheVariants as piece
use Rattle.soqe_syntax.specs.Grammar.{Term, Plain, Applied, Terms, One, More, Tree, Constant, Atom, Equation, Bind2, Not, Bind, Binary, Paren, strength, left, right}

-- what waits for an operand
pub data Pending : Type 0 where
  InParen : Pending
  InNot : Pending
  InBind : Quantifier → Span → Option Span → Pending
  InBinary : Operator → Tree Span → Pending
  InBind2 : Quantifier → Span → List Span → Pending

-- the left side of an equation
pub record Side : Type 0 where
  pub negated : Bool
  pub sign : Span
  pub term : Term Span

-- a name whose arguments are read
pub record Call : Type 0 where
  pub name : Span
  pub done : Option (Terms Span)

-- what may come next: an operand, an operator, or a part of a binder or of a term
pub data State : Type 0 where
  Want : List Pending → State
  Have : List Pending → Tree Span → State
  Quantified : List Pending → Quantifier → State
  Named : List Pending → Quantifier → Span → State
  Sorting : List Pending → Quantifier → Span → State
  Sorted : List Pending → Quantifier → Span → Span → State
  -- a term begins here
  WantTerm : List Pending → Option Side → List Call → State
  -- a term stands here
  HaveTerm : List Pending → Option Side → List Call → Term Span → State
  Quantified2 : List Pending → Quantifier → State
  Named2 : List Pending → Quantifier → Span → State
  WantSort : List Pending → Quantifier → Span → List Span → State
  HaveSort : List Pending → Quantifier → Span → List Span → State
  Sorted2 : List Pending → Quantifier → Span → List Span → State
  Dead : State

-- the level that the next operand must have
abbrev pub asks : Pending → ℕ
asks InParen = 0
asks InNot = 4
asks (InBind q x s) = 4
asks (InBinary op l) = right op
asks (InBind2 q x ss) = 4

-- the level that the next operand must have behind a stack
abbrev pub wants : List Pending → ℕ
wants [] = 0
wants (f ∷ st) = asks f

-- what waited, with its operand
abbrev pub close : Pending → Tree Span → Tree Span
close InParen a = Paren a
close InNot a = Not a
close (InBind q x s) a = Bind q x s a
close (InBinary op l) a = Binary op l a
close (InBind2 q x ss) a = Bind2 q x ss a

-- whether it waits on, where a sign that wants k on its left comes
abbrev pub waits : ℕ → Pending → Bool
waits k InParen = true
waits k InNot = false
waits k (InBind q x s) = false
waits k (InBinary op l) = nat_lt (strength op) k
waits k (InBind2 q x ss) = false

-- a stack with the operand on top of it
pub record Open : Type 0 where
  pub stack : List Pending
  pub tree : Tree Span

-- closes what doesn't wait on before a sign that wants k on its left
abbrev pub reduce : ℕ → List Pending → Tree Span → Open
reduce k [] s = record { stack = []; tree = s }
reduce k (f ∷ st) s = cond (waits k f) (record { stack = f ∷ st; tree = s }) (reduce k st (close f s))

-- behind an operand, an operator of which it is the left one
abbrev pub operate : Operator → Open → State
operate op o = cond (nat_lt (strength op) (wants o.stack)) Dead (Want (InBinary op o.tree ∷ o.stack))

-- the parenthesis that waits is closed
abbrev pub shut_at : List Pending → Tree Span → State
shut_at (InParen ∷ st) s = Have st (Paren s)
shut_at _ s = Dead

-- a closing parenthesis behind an operand
abbrev pub shut : Open → State
shut o = shut_at o.stack o.tree

-- one more argument
abbrev pub add : Option (Terms Span) → Term Span → Terms Span
add None t = One t
add (Some ts) t = More ts t

-- a term as an atom, or as the right side of an equation
abbrev pub atomic : Option Side → Term Span → Tree Span
atomic None t = Atom t
atomic (Some s) t = Equation s.negated s.sign s.term t

-- an opening parenthesis behind a term
abbrev pub term_open : List Pending → Option Side → List Call → Term Span → State
term_open st side calls (Plain x) = WantTerm st side (record { name = x; done = None } ∷ calls)
term_open st side calls (Applied x ts) = Dead

-- a comma behind a term
abbrev pub term_comma : List Pending → Option Side → List Call → Term Span → State
term_comma st side [] t = Dead
term_comma st side (c ∷ calls) t = WantTerm st side (record { name = c.name; done = Some (add c.done t) } ∷ calls)

-- a closing parenthesis behind a term
abbrev pub term_close : List Pending → Option Side → List Call → Term Span → State
term_close st side [] t = shut (reduce 0 st (atomic side t))
term_close st side (c ∷ calls) t = HaveTerm st side calls (Applied c.name (add c.done t))

-- an equality sign behind a term
abbrev pub term_equals : Bool → Span → List Pending → Option Side → List Call → Term Span → State
term_equals b at st None [] t = WantTerm st (Some (record { negated = b; sign = at; term = t })) []
term_equals b at st _ _ t = Dead

-- an operator behind a term
abbrev pub term_sign : Operator → List Pending → Option Side → List Call → Term Span → State
term_sign op st side [] t = operate op (reduce (left op) st (atomic side t))
term_sign op st side (c ∷ calls) t = Dead

-- the state after one more piece
abbrev pub step : State → Piece → State
step (Want st) (piece.Constant b) = Have st (Constant b)
step (Want st) (piece.Name n) = HaveTerm st None [] (Plain n)
step (Want st) piece.Open = Want (InParen ∷ st)
step (Want st) piece.Tilde = Want (InNot ∷ st)
step (Want st) (piece.Binder q) = Quantified st q
step (Want st) (piece.Binder2 q) = Quantified2 st q
step (Have st s) (piece.Sign op) = operate op (reduce (left op) st s)
step (Have st s) piece.Close = shut (reduce 0 st s)
step (Quantified st q) (piece.Name x) = Named st q x
step (Named st q x) piece.Dot = Want (InBind q x None ∷ st)
step (Named st q x) piece.Colon = Sorting st q x
step (Sorting st q x) (piece.Name s) = Sorted st q x s
step (Sorted st q x s) piece.Dot = Want (InBind q x (Some s) ∷ st)
step (WantTerm st side calls) (piece.Name x) = HaveTerm st side calls (Plain x)
step (HaveTerm st side calls t) piece.Open = term_open st side calls t
step (HaveTerm st side calls t) piece.Comma = term_comma st side calls t
step (HaveTerm st side calls t) piece.Close = term_close st side calls t
step (HaveTerm st side calls t) (piece.Equals b at) = term_equals b at st side calls t
step (HaveTerm st side calls t) (piece.Sign op) = term_sign op st side calls t
step (Quantified2 st q) (piece.Name x) = Named2 st q x
step (Named2 st q x) piece.Dot = Want (InBind2 q x [] ∷ st)
step (Named2 st q x) piece.Open = WantSort st q x []
step (WantSort st q x ss) (piece.Name s) = HaveSort st q x (ss ++ s ∷ [])
step (HaveSort st q x ss) piece.Comma = WantSort st q x ss
step (HaveSort st q x ss) piece.Close = Sorted2 st q x ss
step (Sorted2 st q x ss) piece.Dot = Want (InBind2 q x ss ∷ st)
step _ _ = Dead

-- the state after further pieces
abbrev pub run : State → List Piece → State
run st [] = st
run st (t ∷ ts) = run (step st t) ts

-- nothing waits
abbrev pub whole_at : List Pending → Tree Span → Option (Tree Span)
whole_at [] s = Some s
whole_at (f ∷ st) s = None

-- the formula of an operand that nothing waits for
abbrev pub whole : Open → Option (Tree Span)
whole o = whole_at o.stack o.tree

-- the formula that was read
abbrev pub finish : State → Option (Tree Span)
finish (Have st s) = whole (reduce 0 st s)
finish (HaveTerm st side [] t) = whole (reduce 0 st (atomic side t))
finish _ = None

-- the formula of a list of pieces
abbrev pub parse : List Piece → Option (Tree Span)
parse ts = finish (run (Want []) ts)
