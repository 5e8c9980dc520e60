-- What a formula and a problem are: the pieces that a tree is written with, and which trees stand without further
-- parentheses. A tree is over a type of names: places in a text where it is read, texts where it is printed.
use Rattle.std.specs.Prelude.{◌≡◌, ℕ, ◌≤◌, Bool, List, [], ◌∷◌, ◌++◌, Option, Some, None}
use Rattle.soqe_syntax.specs.declared.piece.Span.{Span}
use Rattle.soqe_syntax.specs.declared.piece.Quantifier.{Quantifier}
use Rattle.soqe_syntax.specs.declared.piece.Operator.{Operator}
use Rattle.soqe_syntax.specs.declared.piece.Operator.TheVariants.{And, Or, Imp, Iff}
use Rattle.soqe_syntax.specs.declared.piece.Head.TheVariants as head
use Rattle.soqe_syntax.specs.declared.piece.Piece.{Piece}
use Rattle.soqe_syntax.specs.declared.piece.Piece.TheVariants as piece

-- a name, or a name with arguments, the last one last
mutual
  pub data Term (N : Type 0) : Type 0 where
    Plain : N → Term N
    Applied : N → Terms N → Term N

  pub data Terms (N : Type 0) : Type 0 where
    One : Term N → Terms N
    More : Terms N → Term N → Terms N

-- formulas, as they are written
pub data Tree (N : Type 0) : Type 0 where
  Constant : Bool → Tree N
  Atom : Term N → Tree N
  -- whether it is negated, its sign, and its sides
  Equation : Bool → N → Term N → Term N → Tree N
  Not : Tree N → Tree N
  -- a variable with its sort, where one is written
  Bind : Quantifier → N → Option N → Tree N → Tree N
  -- a predicate with its argument sorts
  Bind2 : Quantifier → N → List N → Tree N → Tree N
  Binary : Operator → Tree N → Tree N → Tree N
  Paren : Tree N → Tree N

-- how tightly an operator binds
abbrev pub strength : Operator → ℕ
strength And = 3
strength Or = 2
strength Imp = 1
strength Iff = 0

-- how tight its left operand has to be
abbrev pub left : Operator → ℕ
left And = 3
left Or = 2
left Imp = 2
left Iff = 1

-- how tight its right operand has to be
abbrev pub right : Operator → ℕ
right And = 4
right Or = 3
right Imp = 1
right Iff = 1

-- how tight a formula is
abbrev pub level : {N : Type 0} → Tree N → ℕ
level (Binary op l r) = strength op
level _ = 4

-- no operand is looser than its place
abbrev pub IsLevelled : {N : Type 0} → Tree N → Type 0
IsLevelled (Constant b) = Unit {0}
IsLevelled (Atom t) = Unit {0}
IsLevelled (Equation b at l r) = Unit {0}
IsLevelled (Not a) = (4 ≤ level a) × IsLevelled a
IsLevelled (Bind q x s a) = (4 ≤ level a) × IsLevelled a
IsLevelled (Bind2 q x ss a) = (4 ≤ level a) × IsLevelled a
IsLevelled (Binary op l r) = (left op ≤ level l) × IsLevelled l × (right op ≤ level r) × IsLevelled r
IsLevelled (Paren a) = IsLevelled a

-- the sort behind a variable
abbrev pub spell_sort : Option Span → List Piece
spell_sort None = []
spell_sort (Some s) = piece.Colon ∷ piece.Name s ∷ []

-- names behind the first of a list
abbrev pub spell_further : List Span → List Piece
spell_further [] = []
spell_further (s ∷ ss) = piece.Comma ∷ piece.Name s ∷ spell_further ss

-- argument sorts, without parentheses where there are none
abbrev pub spell_sorts : List Span → List Piece
spell_sorts [] = []
spell_sorts (s ∷ ss) = piece.Open ∷ piece.Name s ∷ spell_further ss ++ piece.Close ∷ []

-- a binder of a variable
abbrev pub spell_binder : Quantifier → Span → Option Span → List Piece
spell_binder q x s = piece.Binder q ∷ piece.Name x ∷ spell_sort s ++ piece.Dot ∷ []

-- a binder of a predicate
abbrev pub spell_binder2 : Quantifier → Span → List Span → List Piece
spell_binder2 q x ss = piece.Binder2 q ∷ piece.Name x ∷ spell_sorts ss ++ piece.Dot ∷ []

abbrev mutual
  -- the pieces that a term is written with
  pub spell_term : Term Span → List Piece
  spell_term (Plain x) = piece.Name x ∷ []
  spell_term (Applied x ts) = piece.Name x ∷ piece.Open ∷ spell_terms ts ++ piece.Close ∷ []

  pub spell_terms : Terms Span → List Piece
  spell_terms (One t) = spell_term t
  spell_terms (More ts t) = spell_terms ts ++ piece.Comma ∷ spell_term t

-- the pieces that a formula is written with
abbrev pub spell : Tree Span → List Piece
spell (Constant b) = piece.Constant b ∷ []
spell (Atom t) = spell_term t
spell (Equation b at l r) = spell_term l ++ piece.Equals b at ∷ spell_term r
spell (Not a) = piece.Tilde ∷ spell a
spell (Bind q x s a) = spell_binder q x s ++ spell a
spell (Bind2 q x ss a) = spell_binder2 q x ss ++ spell a
spell (Binary op l r) = spell l ++ piece.Sign op ∷ spell r
spell (Paren a) = piece.Open ∷ spell a ++ piece.Close ∷ []

-- declarations, as they are written
pub data Declared (N : Type 0) : Type 0 where
  DeclaredSort : N → Declared N
  -- a function with its argument sorts and the sort of its values
  DeclaredFun : N → List N → N → Declared N
  DeclaredPred : N → List N → Declared N
  DeclaredVar : N → N → Declared N

-- the pieces that a declaration is written with
abbrev pub spell_declared : Declared Span → List Piece
spell_declared (DeclaredSort s) = piece.Begin head.Sort ∷ piece.Name s ∷ piece.Semicolon ∷ []
spell_declared (DeclaredFun f ss r) = piece.Begin head.Fun ∷ piece.Name f ∷ spell_sorts ss ++ piece.Colon ∷ piece.Name r ∷ piece.Semicolon ∷ []
spell_declared (DeclaredPred p ss) = piece.Begin head.Pred ∷ piece.Name p ∷ spell_sorts ss ++ piece.Semicolon ∷ []
spell_declared (DeclaredVar x s) = piece.Begin head.Var ∷ piece.Name x ∷ piece.Colon ∷ piece.Name s ∷ piece.Semicolon ∷ []

-- the pieces of declarations one after another
abbrev pub spell_all_declared : List (Declared Span) → List Piece
spell_all_declared [] = []
spell_all_declared (d ∷ ds) = spell_declared d ++ spell_all_declared ds

-- an elimination problem, as it is written: declarations, then a goal
pub record Problem (N : Type 0) : Type 0 where
  pub declared : List (Declared N)
  pub goal : Tree N

-- the pieces that a problem is written with
abbrev pub spell_problem : Problem Span → List Piece
spell_problem p = spell_all_declared p.declared ++ piece.Begin head.Goal ∷ spell p.goal ++ piece.Semicolon ∷ []

-- A list of pieces has the shape of a formula.
pub record HasShape (pieces : List Piece) (tree : Tree Span) : Type 0 where
  pub levelled : IsLevelled tree
  pub spelled : pieces ≡ spell tree

-- A list of pieces has the shape of a problem.
pub record HasProblemShape (pieces : List Piece) (problem : Problem Span) : Type 0 where
  pub levelled : IsLevelled problem.goal
  pub spelled : pieces ≡ spell_problem problem
