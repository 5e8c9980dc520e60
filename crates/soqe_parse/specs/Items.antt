-- Reading a problem piece by piece: declarations, then a goal, whose formula is read by the machine for formulas.
use Rattle.std.specs.Prelude.{◌++◌, List, [], ◌∷◌, Option, Some, None}
use Rattle.soqe_syntax.specs.declared.piece.Span.{Span}
use Rattle.soqe_syntax.specs.declared.piece.Head.TheVariants as head
use Rattle.soqe_syntax.specs.declared.piece.Piece.{Piece}
use Rattle.soqe_syntax.specs.declared.piece.Piece.TheVariants as piece
use Rattle.soqe_syntax.specs.Grammar.{Tree, Declared, DeclaredSort, DeclaredFun, DeclaredPred, DeclaredVar, Problem}
use Rattle.soqe_parse.specs.Machine as formula

-- inside a declaration
pub data Within : Type 0 where
  InSort : Within
  HaveSort : Span → Within
  InFun : Within
  NamedFun : Span → Within
  -- argument sorts: one is to come, one stands there, or they are closed
  WantFunSort : Span → List Span → Within
  HaveFunSort : Span → List Span → Within
  ClosedFun : Span → List Span → Within
  WantResult : Span → List Span → Within
  HaveResult : Span → List Span → Span → Within
  InPred : Within
  NamedPred : Span → Within
  WantPredSort : Span → List Span → Within
  HavePredSort : Span → List Span → Within
  ClosedPred : Span → List Span → Within
  InVar : Within
  NamedVar : Span → Within
  WantVarSort : Span → Within
  HaveVarSort : Span → Span → Within

-- between items, inside a declaration, inside the goal, behind the goal, or where nothing goes on
pub data State : Type 0 where
  Between : List (Declared Span) → State
  Inside : List (Declared Span) → Within → State
  Goal : List (Declared Span) → formula.State → State
  Done : Problem Span → State
  Dead : State

-- the keyword that begins an item
abbrev pub begin : List (Declared Span) → Piece → State
begin ds (piece.Begin head.Sort) = Inside ds InSort
begin ds (piece.Begin head.Fun) = Inside ds InFun
begin ds (piece.Begin head.Pred) = Inside ds InPred
begin ds (piece.Begin head.Var) = Inside ds InVar
begin ds (piece.Begin head.Goal) = Goal ds (formula.Want [])
begin ds _ = Dead

-- the state with one more declaration
abbrev pub declared : List (Declared Span) → Declared Span → State
declared ds d = Between (ds ++ d ∷ [])

-- a piece inside a declaration
abbrev pub step_within : List (Declared Span) → Within → Piece → State
step_within ds InSort (piece.Name x) = Inside ds (HaveSort x)
step_within ds (HaveSort x) piece.Semicolon = declared ds (DeclaredSort x)
step_within ds InFun (piece.Name f) = Inside ds (NamedFun f)
step_within ds (NamedFun f) piece.Open = Inside ds (WantFunSort f [])
step_within ds (NamedFun f) piece.Colon = Inside ds (WantResult f [])
step_within ds (WantFunSort f ss) (piece.Name s) = Inside ds (HaveFunSort f (ss ++ s ∷ []))
step_within ds (HaveFunSort f ss) piece.Comma = Inside ds (WantFunSort f ss)
step_within ds (HaveFunSort f ss) piece.Close = Inside ds (ClosedFun f ss)
step_within ds (ClosedFun f ss) piece.Colon = Inside ds (WantResult f ss)
step_within ds (WantResult f ss) (piece.Name r) = Inside ds (HaveResult f ss r)
step_within ds (HaveResult f ss r) piece.Semicolon = declared ds (DeclaredFun f ss r)
step_within ds InPred (piece.Name p) = Inside ds (NamedPred p)
step_within ds (NamedPred p) piece.Open = Inside ds (WantPredSort p [])
step_within ds (NamedPred p) piece.Semicolon = declared ds (DeclaredPred p [])
step_within ds (WantPredSort p ss) (piece.Name s) = Inside ds (HavePredSort p (ss ++ s ∷ []))
step_within ds (HavePredSort p ss) piece.Comma = Inside ds (WantPredSort p ss)
step_within ds (HavePredSort p ss) piece.Close = Inside ds (ClosedPred p ss)
step_within ds (ClosedPred p ss) piece.Semicolon = declared ds (DeclaredPred p ss)
step_within ds InVar (piece.Name x) = Inside ds (NamedVar x)
step_within ds (NamedVar x) piece.Colon = Inside ds (WantVarSort x)
step_within ds (WantVarSort x) (piece.Name s) = Inside ds (HaveVarSort x s)
step_within ds (HaveVarSort x s) piece.Semicolon = declared ds (DeclaredVar x s)
step_within ds _ _ = Dead

-- a state of the goal's formula; nothing goes on from its dead state
abbrev pub goal_at : List (Declared Span) → formula.State → State
goal_at ds formula.Dead = Dead
goal_at ds x = Goal ds x

-- the problem where the goal's formula is whole
abbrev pub goal_done : List (Declared Span) → Option (Tree Span) → State
goal_done ds None = Dead
goal_done ds (Some a) = Done (record { declared = ds; goal = a })

-- a piece inside the goal: a semicolon ends its formula
abbrev pub step_goal : List (Declared Span) → formula.State → Piece → State
step_goal ds x piece.Semicolon = goal_done ds (formula.finish x)
step_goal ds x p = goal_at ds (formula.step x p)

-- the state after one more piece
abbrev pub step : State → Piece → State
step (Between ds) p = begin ds p
step (Inside ds w) p = step_within ds w p
step (Goal ds x) p = step_goal ds x p
step (Done problem) p = Dead
step Dead p = Dead

-- the state after further pieces
abbrev pub run : State → List Piece → State
run x [] = x
run x (p ∷ ps) = run (step x p) ps

-- the problem that was read
abbrev pub finish : State → Option (Problem Span)
finish (Done problem) = Some problem
finish _ = None

-- the problem of a list of pieces
abbrev pub parse : List Piece → Option (Problem Span)
parse ps = finish (run (Between []) ps)
