-- The grammar by its productions and the spelling of levelled trees say the same.
--
-- One way by recursion on the production (`spelled-shape`), the other by recursion on the tree (`shape-spelled`); both
-- are a line for each production. The rest regroups lists of pieces.
use Rattle.std.proofs.Common.{◌≡◌, ℕ, ◌≤◌, List, [], ◌∷◌, ◌++◌, Some, None, refl, sym, ap, ◌∙◌, subst, append_assoc, arith}
use Rattle.soqe_syntax.specs.declared.piece.Span.{Span}
use Rattle.soqe_syntax.specs.declared.piece.Quantifier.{Quantifier}
use Rattle.soqe_syntax.specs.declared.piece.Operator.TheVariants.{And, Or, Imp, Iff}
use Rattle.soqe_syntax.specs.declared.piece.Head.TheVariants as head
use Rattle.soqe_syntax.specs.declared.piece.Piece.{Piece}
use Rattle.soqe_syntax.specs.declared.piece.Piece.TheVariants as piece
use Rattle.soqe_syntax.specs.Grammar.{Term, Plain, Applied, Terms, One, More, Tree, Constant, Atom, Equation, Not, Bind, Bind2, Binary, Paren, level, IsLevelled, spell_further, spell_sorts, spell_binder2, spell_term, spell_terms, spell, HasShape, Declared, DeclaredSort, DeclaredFun, DeclaredPred, DeclaredVar, spell_declared, spell_all_declared, Problem, spell_problem, HasProblemShape}
use Rattle.soqe_syntax.specs.Productions.{TermSpelled, plain, applied, TermsSpelled, one, more, NamesSpelled, first, next, Spelled, constant, atom, equation, paren, not, bind, bind_sorted, bind2, bind2_sorted, and, or, imp, iff, DeclaredSpelled, a_sort, a_constant, a_function, a_proposition, a_predicate, a_variable, ProblemSpelled, goal, behind}

-- ---- terms

mutual
  term-pieces : {ps : List Piece} {t : Term Span} → TermSpelled ps t → ps ≡ spell_term t
  term-pieces plain = refl
  term-pieces (applied {x = x} r) = ap (λ (us : List Piece). piece.Name x ∷ piece.Open ∷ us ++ piece.Close ∷ []) (terms-pieces r)

  terms-pieces : {ps : List Piece} {ts : Terms Span} → TermsSpelled ps ts → ps ≡ spell_terms ts
  terms-pieces (one r) = term-pieces r
  terms-pieces (more {us = us} {ts = ts} r r') =
      ap (λ (x : List Piece). x ++ piece.Comma ∷ us) (terms-pieces r) ∙ ap (λ (x : List Piece). spell_terms ts ++ piece.Comma ∷ x) (term-pieces r')

mutual
  term-spelled : (t : Term Span) → TermSpelled (spell_term t) t
  term-spelled (Plain x) = plain
  term-spelled (Applied x ts) = applied (terms-spelled ts)

  terms-spelled : (ts : Terms Span) → TermsSpelled (spell_terms ts) ts
  terms-spelled (One t) = one (term-spelled t)
  terms-spelled (More ts t) = more (terms-spelled ts) (term-spelled t)

-- ---- lists of sorts

abbrev spell_names : Span → List Span → List Piece
spell_names s ss = piece.Name s ∷ spell_further ss

names-spelled : (ss : List Span) (s : Span) → NamesSpelled (spell_names s ss) (s ∷ ss)
names-spelled [] s = first
names-spelled (r ∷ ss) s = next (names-spelled ss r)

-- the list in its parentheses, and what stands behind it
sorts-pieces : {us : List Piece} {ss : List Span} → NamesSpelled us ss → (rest : List Piece) → piece.Open ∷ us ++ piece.Close ∷ rest ≡ spell_sorts ss ++ rest
sorts-pieces first rest = refl
sorts-pieces (next {s = s} n) rest =
    let e = sorts-pieces n rest in
    ap (λ (x : List Piece). piece.Open ∷ piece.Name s ∷ piece.Comma ∷ x) (behind-open e)
  where
    behind-open : {x y : List Piece} → piece.Open ∷ x ≡ piece.Open ∷ y → x ≡ y
    behind-open e = cc

-- ---- formulas

-- a predicate's binder with sorts
binder2-pieces : (q : Quantifier) (x : Span) {us : List Piece} {ss : List Span} → NamesSpelled us ss → (ps : List Piece)
    → piece.Binder2 q ∷ piece.Name x ∷ piece.Open ∷ us ++ piece.Close ∷ piece.Dot ∷ ps ≡ spell_binder2 q x ss ++ ps
binder2-pieces q x {us} {ss} n ps =
    ap (λ (r : List Piece). piece.Binder2 q ∷ piece.Name x ∷ r) (sorts-pieces n (piece.Dot ∷ ps) ∙ sym (append_assoc (spell_sorts ss) (piece.Dot ∷ []) ps))

-- What a production gives: a levelled tree, as tight as its place, and its pieces.
abbrev Shaped : ℕ → List Piece → Tree Span → Type 0
Shaped k ps t = (k ≤ level t) × IsLevelled t × (ps ≡ spell t)

both-sides : (p : Piece) (l r : Tree Span) (ps us : List Piece) → ps ≡ spell l → us ≡ spell r → ps ++ p ∷ us ≡ spell l ++ p ∷ spell r
both-sides p l r ps us e f = ap (λ (x : List Piece). x ++ p ∷ us) e ∙ ap (λ (x : List Piece). spell l ++ p ∷ x) f

pub spelled-shape : {k : ℕ} {ps : List Piece} {t : Tree Span} → Spelled k ps t → Shaped k ps t
spelled-shape (constant h) = (h, tt, refl)
spelled-shape (atom h r) = (h, tt, term-pieces r)
spelled-shape (equation {b = b} {at = at} {us = us} {l = l} h r r') =
    (h, tt, ap (λ (x : List Piece). x ++ piece.Equals b at ∷ us) (term-pieces r) ∙ ap (λ (x : List Piece). spell_term l ++ piece.Equals b at ∷ x) (term-pieces r'))
spelled-shape (paren h r) = let i = spelled-shape r in (h, i.1, ap (λ (x : List Piece). piece.Open ∷ x ++ piece.Close ∷ []) i.2)
spelled-shape (not h r) = let i = spelled-shape r in (h, (i.0, i.1), ap (λ (x : List Piece). piece.Tilde ∷ x) i.2)
spelled-shape (bind {q = q} {x = x} h r) = let i = spelled-shape r in (h, (i.0, i.1), ap (λ (y : List Piece). piece.Binder q ∷ piece.Name x ∷ piece.Dot ∷ y) i.2)
spelled-shape (bind_sorted {q = q} {x = x} {s = s} h r) =
    let i = spelled-shape r in (h, (i.0, i.1), ap (λ (y : List Piece). piece.Binder q ∷ piece.Name x ∷ piece.Colon ∷ piece.Name s ∷ piece.Dot ∷ y) i.2)
spelled-shape (bind2 {q = q} {x = x} h r) = let i = spelled-shape r in (h, (i.0, i.1), ap (λ (y : List Piece). piece.Binder2 q ∷ piece.Name x ∷ piece.Dot ∷ y) i.2)
spelled-shape (bind2_sorted {q = q} {x = x} {ss = ss} {ps = ps} h n r) =
    let i = spelled-shape r in (h, (i.0, i.1), binder2-pieces q x n ps ∙ ap (λ (y : List Piece). spell_binder2 q x ss ++ y) i.2)
spelled-shape (and {ps = ps} {us = us} {a = a} {b = b} h r r') =
    let i = spelled-shape r in let j = spelled-shape r' in (h, (i.0, i.1, j.0, j.1), both-sides (piece.Sign And) a b ps us i.2 j.2)
spelled-shape (or {ps = ps} {us = us} {a = a} {b = b} h r r') =
    let i = spelled-shape r in let j = spelled-shape r' in (h, (i.0, i.1, j.0, j.1), both-sides (piece.Sign Or) a b ps us i.2 j.2)
spelled-shape (imp {ps = ps} {us = us} {a = a} {b = b} h r r') =
    let i = spelled-shape r in let j = spelled-shape r' in (h, (i.0, i.1, j.0, j.1), both-sides (piece.Sign Imp) a b ps us i.2 j.2)
spelled-shape (iff {ps = ps} {us = us} {a = a} {b = b} h r r') =
    let i = spelled-shape r in let j = spelled-shape r' in (h, (i.0, i.1, j.0, j.1), both-sides (piece.Sign Iff) a b ps us i.2 j.2)

pub shape-spelled : (t : Tree Span) (k : ℕ) → k ≤ level t → IsLevelled t → Spelled k (spell t) t
shape-spelled (Constant b) k h w = constant h
shape-spelled (Atom t) k h w = atom h (term-spelled t)
shape-spelled (Equation b at l r) k h w = equation h (term-spelled l) (term-spelled r)
shape-spelled (Paren a) k h w = paren h (shape-spelled a 0 (omega arith) w)
shape-spelled (Not a) k h w = not h (shape-spelled a 4 w.0 w.1)
shape-spelled (Bind q x None a) k h w = bind h (shape-spelled a 4 w.0 w.1)
shape-spelled (Bind q x (Some s) a) k h w = bind_sorted h (shape-spelled a 4 w.0 w.1)
shape-spelled (Bind2 q x [] a) k h w = bind2 h (shape-spelled a 4 w.0 w.1)
shape-spelled (Bind2 q x (s ∷ ss) a) k h w =
    let n = names-spelled ss s in
    subst (λ (ps : List Piece). Spelled k ps (Bind2 q x (s ∷ ss) a)) (binder2-pieces q x n (spell a)) (bind2_sorted h n (shape-spelled a 4 w.0 w.1))
shape-spelled (Binary And l r) k h w = and h (shape-spelled l 3 w.0 w.1) (shape-spelled r 4 w.2 w.3)
shape-spelled (Binary Or l r) k h w = or h (shape-spelled l 2 w.0 w.1) (shape-spelled r 3 w.2 w.3)
shape-spelled (Binary Imp l r) k h w = imp h (shape-spelled l 2 w.0 w.1) (shape-spelled r 1 w.2 w.3)
shape-spelled (Binary Iff l r) k h w = iff h (shape-spelled l 1 w.0 w.1) (shape-spelled r 1 w.2 w.3)

pub formula-shape : (t : Tree Span) (ps : List Piece) → Spelled 0 ps t → HasShape ps t
formula-shape t ps r = let i = spelled-shape r in record { levelled = i.1; spelled = i.2 }

pub formula-spelled : (t : Tree Span) (ps : List Piece) → HasShape ps t → Spelled 0 ps t
formula-spelled t ps h = subst (λ (x : List Piece). Spelled 0 x t) (sym h.spelled) (shape-spelled t 0 (omega arith) h.levelled)

-- ---- declarations and problems

declared-pieces : {us : List Piece} {d : Declared Span} → DeclaredSpelled us d → us ≡ spell_declared d
declared-pieces a_sort = refl
declared-pieces a_constant = refl
declared-pieces (a_function {f = f} {r = r} n) =
    ap (λ (x : List Piece). piece.Begin head.Fun ∷ piece.Name f ∷ x) (sorts-pieces n (piece.Colon ∷ piece.Name r ∷ piece.Semicolon ∷ []))
declared-pieces a_proposition = refl
declared-pieces (a_predicate {p = p} n) = ap (λ (x : List Piece). piece.Begin head.Pred ∷ piece.Name p ∷ x) (sorts-pieces n (piece.Semicolon ∷ []))
declared-pieces a_variable = refl

declared-spelled : (d : Declared Span) → DeclaredSpelled (spell_declared d) d
declared-spelled (DeclaredSort s) = a_sort
declared-spelled (DeclaredFun f [] r) = a_constant
declared-spelled (DeclaredFun f (s ∷ ss) r) =
    let n : DeclaredSpelled _ (DeclaredFun f (s ∷ ss) r) = a_function (names-spelled ss s) in
    subst (λ (x : List Piece). DeclaredSpelled x (DeclaredFun f (s ∷ ss) r)) (declared-pieces n) n
declared-spelled (DeclaredPred p []) = a_proposition
declared-spelled (DeclaredPred p (s ∷ ss)) =
    let n : DeclaredSpelled _ (DeclaredPred p (s ∷ ss)) = a_predicate (names-spelled ss s) in
    subst (λ (x : List Piece). DeclaredSpelled x (DeclaredPred p (s ∷ ss))) (declared-pieces n) n
declared-spelled (DeclaredVar x s) = a_variable

abbrev problem : List (Declared Span) → Tree Span → Problem Span
problem ds a = record { declared = ds; goal = a }

regroup : (ds gs us rest : List Piece) → ds ++ ((gs ++ us) ++ rest) ≡ ((ds ++ gs) ++ us) ++ rest
regroup ds gs us rest = simp append_assoc

problem-pieces : {ps : List Piece} {ds : List (Declared Span)} {a : Tree Span} → ProblemSpelled ps ds a → IsLevelled a × (ps ≡ spell_problem (problem ds a))
problem-pieces (goal r) = let i = spelled-shape r in (i.1, ap (λ (x : List Piece). piece.Begin head.Goal ∷ x ++ piece.Semicolon ∷ []) i.2)
problem-pieces (behind {ps = ps} {d = d} {ds = ds} {a = a} r r') =
    let i = problem-pieces r' in (
      i.0,
      ap (λ (x : List Piece). x ++ ps) (declared-pieces r)
          ∙ ap (λ (x : List Piece). spell_declared d ++ x) i.1
          ∙ regroup (spell_declared d) (spell_all_declared ds) (piece.Begin head.Goal ∷ spell a) (piece.Semicolon ∷ []),
    )

problem-spelled : (ds : List (Declared Span)) (a : Tree Span) → IsLevelled a → ProblemSpelled (spell_problem (problem ds a)) ds a
problem-spelled [] a w = goal (shape-spelled a 0 (omega arith) w)
problem-spelled (d ∷ ds) a w =
    subst (λ (x : List Piece). ProblemSpelled x (d ∷ ds) a) (regroup (spell_declared d) (spell_all_declared ds) (piece.Begin head.Goal ∷ spell a) (piece.Semicolon ∷ []))
    (behind (declared-spelled d) (problem-spelled ds a w))

pub whole-shape : (p : Problem Span) (ps : List Piece) → ProblemSpelled ps p.declared p.goal → HasProblemShape ps p
whole-shape p ps r = let i = problem-pieces r in record { levelled = i.0; spelled = i.1 }

pub whole-spelled : (p : Problem Span) (ps : List Piece) → HasProblemShape ps p → ProblemSpelled ps p.declared p.goal
whole-spelled p ps h = subst (λ (x : List Piece). ProblemSpelled x p.declared p.goal) (sym h.spelled) (problem-spelled p.declared p.goal h.levelled)
