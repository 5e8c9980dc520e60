-- The grammar by its productions, one constructor each: which pieces a tree is written with in a place of a level.
-- `spell` and `IsLevelled` say the same (the law `two_forms`); this form is for reading, and for proofs by production.
use Rattle.std.specs.Prelude.{ℕ, ◌≤◌, Bool, List, [], ◌∷◌, ◌++◌, Some, None}
use Rattle.soqe_syntax.specs.declared.piece.Span.{Span}
use Rattle.soqe_syntax.specs.declared.piece.Quantifier.{Quantifier}
use Rattle.soqe_syntax.specs.declared.piece.Operator.TheVariants.{And, Or, Imp, Iff}
use Rattle.soqe_syntax.specs.declared.piece.Head.TheVariants as head
use Rattle.soqe_syntax.specs.declared.piece.Piece.{Piece}
use Rattle.soqe_syntax.specs.declared.piece.Piece.TheVariants as piece
use Rattle.soqe_syntax.specs.Grammar.{Term, Plain, Applied, Terms, One, More, Tree, Constant, Atom, Equation, Not, Bind, Bind2, Binary, Paren, Declared, DeclaredSort, DeclaredFun, DeclaredPred, DeclaredVar}

-- x, or x(t, u)
mutual
  pub data TermSpelled : List Piece → Term Span → Type 0 where
    plain : {x : Span} → TermSpelled (piece.Name x ∷ []) (Plain x)
    applied : {x : Span} {ps : List Piece} {ts : Terms Span} → TermsSpelled ps ts → TermSpelled (piece.Name x ∷ piece.Open ∷ ps ++ piece.Close ∷ []) (Applied x ts)

  pub data TermsSpelled : List Piece → Terms Span → Type 0 where
    one : {ps : List Piece} {t : Term Span} → TermSpelled ps t → TermsSpelled ps (One t)
    more : {ps us : List Piece} {ts : Terms Span} {t : Term Span} → TermsSpelled ps ts → TermSpelled us t → TermsSpelled (ps ++ piece.Comma ∷ us) (More ts t)

-- one name or more, with commas between them
pub data NamesSpelled : List Piece → List Span → Type 0 where
  first : {s : Span} → NamesSpelled (piece.Name s ∷ []) (s ∷ [])
  next : {s r : Span} {ps : List Piece} {ss : List Span} → NamesSpelled ps (r ∷ ss) → NamesSpelled (piece.Name s ∷ piece.Comma ∷ ps) (s ∷ r ∷ ss)

-- a formula in a place of the level k
pub data Spelled : ℕ → List Piece → Tree Span → Type 0 where
  -- true, false
  constant : {k : ℕ} {b : Bool} → k ≤ 4 → Spelled k (piece.Constant b ∷ []) (Constant b)
  -- P, P(t, u)
  atom : {k : ℕ} {ps : List Piece} {t : Term Span} → k ≤ 4 → TermSpelled ps t → Spelled k ps (Atom t)
  -- t = u, t != u
  equation : {k : ℕ} {b : Bool} {at : Span} {ps us : List Piece} {l r : Term Span} → k ≤ 4 → TermSpelled ps l → TermSpelled us r
      → Spelled k (ps ++ piece.Equals b at ∷ us) (Equation b at l r)
  -- (A)
  paren : {k : ℕ} {ps : List Piece} {a : Tree Span} → k ≤ 4 → Spelled 0 ps a → Spelled k (piece.Open ∷ ps ++ piece.Close ∷ []) (Paren a)
  -- ~A
  not : {k : ℕ} {ps : List Piece} {a : Tree Span} → k ≤ 4 → Spelled 4 ps a → Spelled k (piece.Tilde ∷ ps) (Not a)
  -- all x. A, ex x. A
  bind : {k : ℕ} {q : Quantifier} {x : Span} {ps : List Piece} {a : Tree Span} → k ≤ 4 → Spelled 4 ps a
      → Spelled k (piece.Binder q ∷ piece.Name x ∷ piece.Dot ∷ ps) (Bind q x None a)
  -- all x:s. A, ex x:s. A
  bind_sorted : {k : ℕ} {q : Quantifier} {x s : Span} {ps : List Piece} {a : Tree Span} → k ≤ 4 → Spelled 4 ps a
      → Spelled k (piece.Binder q ∷ piece.Name x ∷ piece.Colon ∷ piece.Name s ∷ piece.Dot ∷ ps) (Bind q x (Some s) a)
  -- all2 P. A, ex2 P. A
  bind2 : {k : ℕ} {q : Quantifier} {x : Span} {ps : List Piece} {a : Tree Span} → k ≤ 4 → Spelled 4 ps a
      → Spelled k (piece.Binder2 q ∷ piece.Name x ∷ piece.Dot ∷ ps) (Bind2 q x [] a)
  -- all2 P(s, t). A, ex2 P(s, t). A
  bind2_sorted : {k : ℕ} {q : Quantifier} {x : Span} {ss : List Span} {us ps : List Piece} {a : Tree Span} → k ≤ 4 → NamesSpelled us ss → Spelled 4 ps a
      → Spelled k (piece.Binder2 q ∷ piece.Name x ∷ piece.Open ∷ us ++ piece.Close ∷ piece.Dot ∷ ps) (Bind2 q x ss a)
  -- A & B, to the left
  and : {k : ℕ} {ps us : List Piece} {a b : Tree Span} → k ≤ 3 → Spelled 3 ps a → Spelled 4 us b → Spelled k (ps ++ piece.Sign And ∷ us) (Binary And a b)
  -- A | B, to the left
  or : {k : ℕ} {ps us : List Piece} {a b : Tree Span} → k ≤ 2 → Spelled 2 ps a → Spelled 3 us b → Spelled k (ps ++ piece.Sign Or ∷ us) (Binary Or a b)
  -- A -> B, to the right
  imp : {k : ℕ} {ps us : List Piece} {a b : Tree Span} → k ≤ 1 → Spelled 2 ps a → Spelled 1 us b → Spelled k (ps ++ piece.Sign Imp ∷ us) (Binary Imp a b)
  -- A <-> B, not chained
  iff : {k : ℕ} {ps us : List Piece} {a b : Tree Span} → k ≤ 0 → Spelled 1 ps a → Spelled 1 us b → Spelled k (ps ++ piece.Sign Iff ∷ us) (Binary Iff a b)

-- a declaration
pub data DeclaredSpelled : List Piece → Declared Span → Type 0 where
  -- sort s;
  a_sort : {s : Span} → DeclaredSpelled (piece.Begin head.Sort ∷ piece.Name s ∷ piece.Semicolon ∷ []) (DeclaredSort s)
  -- fun c:s;
  a_constant : {f r : Span} → DeclaredSpelled (piece.Begin head.Fun ∷ piece.Name f ∷ piece.Colon ∷ piece.Name r ∷ piece.Semicolon ∷ []) (DeclaredFun f [] r)
  -- fun f(s, t):u;
  a_function : {f r : Span} {ss : List Span} {us : List Piece} → NamesSpelled us ss
      → DeclaredSpelled (piece.Begin head.Fun ∷ piece.Name f ∷ piece.Open ∷ us ++ piece.Close ∷ piece.Colon ∷ piece.Name r ∷ piece.Semicolon ∷ []) (DeclaredFun f ss r)
  -- pred P;
  a_proposition : {p : Span} → DeclaredSpelled (piece.Begin head.Pred ∷ piece.Name p ∷ piece.Semicolon ∷ []) (DeclaredPred p [])
  -- pred P(s, t);
  a_predicate : {p : Span} {ss : List Span} {us : List Piece} → NamesSpelled us ss
      → DeclaredSpelled (piece.Begin head.Pred ∷ piece.Name p ∷ piece.Open ∷ us ++ piece.Close ∷ piece.Semicolon ∷ []) (DeclaredPred p ss)
  -- var x:s;
  a_variable : {x s : Span} → DeclaredSpelled (piece.Begin head.Var ∷ piece.Name x ∷ piece.Colon ∷ piece.Name s ∷ piece.Semicolon ∷ []) (DeclaredVar x s)

-- a problem: declarations, then a goal
pub data ProblemSpelled : List Piece → List (Declared Span) → Tree Span → Type 0 where
  -- goal A;
  goal : {ps : List Piece} {a : Tree Span} → Spelled 0 ps a → ProblemSpelled (piece.Begin head.Goal ∷ ps ++ piece.Semicolon ∷ []) [] a
  behind : {us ps : List Piece} {d : Declared Span} {ds : List (Declared Span)} {a : Tree Span} → DeclaredSpelled us d → ProblemSpelled ps ds a
      → ProblemSpelled (us ++ ps) (d ∷ ds) a
