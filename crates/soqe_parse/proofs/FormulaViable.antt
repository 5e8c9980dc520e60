-- Each living state has a way to go on.
--
-- Behind an operand, the open calls and parentheses are closed and nothing else is owed; where an operand or a name is
-- due, one is written first. So pieces that don't lead to `Dead` are the beginning of a formula (`alive-begun`), and
-- pieces that do are the beginning of none (`dead_is_not_viable` of FormulaComplete).
use Rattle.std.proofs.Common.{true, List, [], ◌∷◌, ◌++◌, Option, Some, None, refl, sym, ◌∙◌, append_assoc, arith}
use Rattle.std.proofs.lemmas.List.{append-nil}
use Rattle.std.proofs.lemmas.Bool.{le-ltb}
use Rattle.soqe_syntax.specs.declared.piece.Span.{Span}
use Rattle.soqe_syntax.specs.declared.piece.Quantifier.{Quantifier}
use Rattle.soqe_syntax.specs.declared.piece.Piece.{Piece}
use Rattle.soqe_syntax.specs.declared.piece.Piece.TheVariants as piece
use Rattle.soqe_syntax.specs.Grammar.{Term, Plain, Applied, Bind2, Tree, Constant, Not, Bind, Binary, Paren, strength, HasShape}
use Rattle.soqe_parse.specs.Machine.{InBind2, Side, Call, WantTerm, HaveTerm, Quantified2, Named2, WantSort, HaveSort, Sorted2, add, atomic, Pending, InParen, InNot, InBind, InBinary, State, Want, Have, Quantified, Named, Sorting, Sorted, Dead, run, step}
use Rattle.soqe_parse.proofs.FormulaComplete.{IsAlive}
use Rattle.soqe_parse.proofs.FormulaSound.{Fits, at, Reads, looser, close-fits, shut-keeps, atomic-fits, step-keeps, run-keeps}

-- Pieces that some formula begins with.
pub record IsBegun (ts : List Piece) : Type 0 where
  pub more : List Piece
  pub tree : Tree Span
  pub shape : HasShape (ts ++ more) tree

-- Some pieces lead from the state to a whole formula.
abbrev pub Ends : State → Type 0
Ends x = (ts : List Piece) → Reads ts x → IsBegun ts

-- what begins a formula with one piece more begins it
shorter : (p : Piece) (ts : List Piece) → IsBegun (ts ++ p ∷ []) → IsBegun ts
shorter p ts v = record { more = p ∷ v.more; tree = v.tree; shape = record { levelled = v.shape.levelled; spelled = sym (append_assoc ts (p ∷ []) v.more) ∙ v.shape.spelled } }

-- a piece on the way
onward : (x : State) (p : Piece) → Ends (step x p) → Ends x
onward x p f ts h = shorter p ts (f (ts ++ p ∷ []) (step-keeps x p ts h))

-- ---- operands

-- behind an operand, what waits is closed, parentheses by a piece each
closed : (st : List Pending) (s : Tree Span) (ts : List Piece) → Fits 0 ts (at st s) → IsBegun ts
closed [] s ts h = record { more = []; tree = s; shape = record { levelled = h.levelled; spelled = append-nil ts ∙ sym h.pieces } }
closed (InParen ∷ st) s ts h =
    shorter piece.Close ts (closed st (Paren s) (ts ++ piece.Close ∷ []) (looser 0 (omega arith) (shut-keeps (InParen ∷ st) s ts h)))
closed (InNot ∷ st) s ts h = closed st (Not s) ts (close-fits InNot st s 0 ts (omega arith) refl h)
closed (InBind q x t ∷ st) s ts h = closed st (Bind q x t s) ts (close-fits (InBind q x t) st s 0 ts (omega arith) refl h)
closed (InBind2 q x ss ∷ st) s ts h = closed st (Bind2 q x ss s) ts (close-fits (InBind2 q x ss) st s 0 ts (omega arith) refl h)
closed (InBinary op l ∷ st) s ts h =
    closed st (Binary op l s) ts (close-fits (InBinary op l) st s 0 ts (omega arith) (le-ltb (strength op) 0 (omega arith)) h)

have-ends : (st : List Pending) (s : Tree Span) → Ends (Have st s)
have-ends st s ts h = closed st s ts (looser 0 (omega arith) h)

want-ends : (st : List Pending) → Ends (Want st)
want-ends st = onward (Want st) (piece.Constant true) (have-ends st (Constant true))

-- behind a term, the calls round it are closed
term-ends : (calls : List Call) (st : List Pending) (side : Option Side) (t : Term Span) → Ends (HaveTerm st side calls t)
term-ends [] st side t ts h = closed st (atomic side t) ts (looser 0 (omega arith) (atomic-fits st side t ts h))
term-ends (c ∷ calls) st side t ts h = onward (HaveTerm st side (c ∷ calls) t) piece.Close (term-ends calls st side (Applied c.name (add c.done t))) ts h

-- ---- binders

abbrev pub any : Span
any = record { start = 0; end = 0 }

named-ends : (st : List Pending) (q : Quantifier) (x : Span) → Ends (Named st q x)
named-ends st q x = onward (Named st q x) piece.Dot (want-ends (InBind q x None ∷ st))

sorted-ends : (st : List Pending) (q : Quantifier) (x s : Span) → Ends (Sorted st q x s)
sorted-ends st q x s = onward (Sorted st q x s) piece.Dot (want-ends (InBind q x (Some s) ∷ st))

named2-ends : (st : List Pending) (q : Quantifier) (x : Span) → Ends (Named2 st q x)
named2-ends st q x = onward (Named2 st q x) piece.Dot (want-ends (InBind2 q x [] ∷ st))

sorted2-ends : (st : List Pending) (q : Quantifier) (x : Span) (ss : List Span) → Ends (Sorted2 st q x ss)
sorted2-ends st q x ss = onward (Sorted2 st q x ss) piece.Dot (want-ends (InBind2 q x ss ∷ st))

have-sort-ends : (st : List Pending) (q : Quantifier) (x : Span) (ss : List Span) → Ends (HaveSort st q x ss)
have-sort-ends st q x ss = onward (HaveSort st q x ss) piece.Close (sorted2-ends st q x ss)

-- ---- every living state

pub alive-begun : (x : State) (ts : List Piece) → Reads ts x → IsAlive x → IsBegun ts
alive-begun (Want st) ts h a = want-ends st ts h
alive-begun (Have st s) ts h a = have-ends st s ts h
alive-begun (Quantified st q) ts h a = onward (Quantified st q) (piece.Name any) (named-ends st q any) ts h
alive-begun (Named st q x) ts h a = named-ends st q x ts h
alive-begun (Sorting st q x) ts h a = onward (Sorting st q x) (piece.Name any) (sorted-ends st q x any) ts h
alive-begun (Sorted st q x s) ts h a = sorted-ends st q x s ts h
alive-begun (WantTerm st side calls) ts h a = onward (WantTerm st side calls) (piece.Name any) (term-ends calls st side (Plain any)) ts h
alive-begun (HaveTerm st side calls t) ts h a = term-ends calls st side t ts h
alive-begun (Quantified2 st q) ts h a = onward (Quantified2 st q) (piece.Name any) (named2-ends st q any) ts h
alive-begun (Named2 st q x) ts h a = named2-ends st q x ts h
alive-begun (WantSort st q x ss) ts h a = onward (WantSort st q x ss) (piece.Name any) (have-sort-ends st q x (ss ++ any ∷ [])) ts h
alive-begun (HaveSort st q x ss) ts h a = have-sort-ends st q x ss ts h
alive-begun (Sorted2 st q x ss) ts h a = sorted2-ends st q x ss ts h
alive-begun Dead ts h a = absurd a

-- pieces that don't lead to the dead state begin a formula
pub living-begun : (ts : List Piece) → IsAlive (run (Want []) ts) → IsBegun ts
living-begun ts a = alive-begun (run (Want []) ts) ts (run-keeps ts (Want []) [] (tt, refl)) a
