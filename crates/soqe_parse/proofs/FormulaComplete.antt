-- What has a shape is read as that shape.
--
-- A tree that fits behind a stack is read to its last operand, with what waits in front of it pushed (`reaches`, by
-- recursion on the tree). Closing all that doesn't wait on then gives the tree itself (`reduce-after`), so the machine
-- answers each levelled tree by its spelling (`parse-spelled`); hence a list of pieces has at most one shape.
use Rattle.std.proofs.Common.{◌≡◌, ℕ, ◌≤◌, ◌<◌, List, [], ◌∷◌, ◌++◌, Option, Some, None, refl, sym, ap, subst, ◌∙◌, append_assoc, arith, nat_lt}
use Rattle.std.proofs.lemmas.List.{append-nil}
use Rattle.std.proofs.lemmas.Bool.{le-ltb, lt-ltb, cond-true, cond-false}
use Rattle.soqe_syntax.specs.declared.piece.Span.{Span}
use Rattle.soqe_syntax.specs.declared.piece.Quantifier.{Quantifier}
use Rattle.soqe_syntax.specs.declared.piece.Operator.{Operator}
use Rattle.soqe_syntax.specs.declared.piece.Operator.TheVariants.{And, Or, Imp, Iff}
use Rattle.soqe_syntax.specs.declared.piece.Piece.{Piece}
use Rattle.soqe_syntax.specs.declared.piece.Piece.TheVariants as piece
use Rattle.soqe_syntax.specs.Grammar.{Term, Plain, Applied, Terms, One, More, Equation, Bind2, spell_term, spell_terms, spell_further, spell_binder2, Tree, Constant, Atom, Not, Bind, Binary, Paren, strength, left, right, level, IsLevelled, spell, HasShape}
use Rattle.soqe_parse.specs.Machine.{InBind2, Side, Call, WantTerm, HaveTerm, HaveSort, add, Pending, InParen, InNot, InBind, InBinary, State, Want, Have, Dead, wants, Open, reduce, operate, shut, step, run, whole, finish, parse}

-- what waits once a tree is read, up to its last operand, and that operand
abbrev pub after : List Pending → Tree Span → Open
after st (Not a) = after (InNot ∷ st) a
after st (Bind q x s a) = after (InBind q x s ∷ st) a
after st (Binary op l r) = after (InBinary op l ∷ st) r
after st (Bind2 q x ss a) = after (InBind2 q x ss ∷ st) a
after st (Equation b at l r) = record { stack = st; tree = Equation b at l r }
after st (Constant b) = record { stack = st; tree = Constant b }
after st (Atom n) = record { stack = st; tree = Atom n }
after st (Paren a) = record { stack = st; tree = Paren a }

-- the tables
pub strength-left : (op : Operator) → strength op ≤ left op
strength-left And = omega arith
strength-left Or = omega arith
strength-left Imp = omega arith
strength-left Iff = omega arith

pub strength-right : (op : Operator) → strength op ≤ right op
strength-right And = omega arith
strength-right Or = omega arith
strength-right Imp = omega arith
strength-right Iff = omega arith

pub strength-four : (op : Operator) → strength op ≤ 3
strength-four And = omega arith
strength-four Or = omega arith
strength-four Imp = omega arith
strength-four Iff = omega arith

-- an operator that fits behind another leaves it waiting
pub fits-waits : (op op' : Operator) → right op' ≤ strength op → strength op' < left op
fits-waits And And h = omega arith
fits-waits And Or h = omega arith
fits-waits And Imp h = omega arith
fits-waits And Iff h = omega arith
fits-waits Or And h = omega arith
fits-waits Or Or h = omega arith
fits-waits Or Imp h = omega arith
fits-waits Or Iff h = omega arith
fits-waits Imp And h = omega arith
fits-waits Imp Or h = omega arith
fits-waits Imp Imp h = omega arith
fits-waits Imp Iff h = omega arith
fits-waits Iff And h = omega arith
fits-waits Iff Or h = omega arith
fits-waits Iff Imp h = omega arith
fits-waits Iff Iff h = omega arith

-- closing after a tree is closing at the tree
pub reduce-after : (s : Tree Span) (st : List Pending) (k : ℕ) → k ≤ level s → IsLevelled s → reduce k (after st s).stack (after st s).tree ≡ reduce k st s
reduce-after (Constant b) st k h w = refl
reduce-after (Atom n) st k h w = refl
reduce-after (Paren a) st k h w = refl
reduce-after (Equation b at l r) st k h w = refl
reduce-after (Bind2 q x ss a) st k h w = reduce-after a (InBind2 q x ss ∷ st) k (omega (arith, w.0)) w.1
reduce-after (Not a) st k h w = reduce-after a (InNot ∷ st) k (omega (arith, w.0)) w.1
reduce-after (Bind q x s a) st k h w = reduce-after a (InBind q x s ∷ st) k (omega (arith, w.0)) w.1
reduce-after (Binary op l r) st k h w =
    reduce-after r (InBinary op l ∷ st) k (omega (arith, w.2, strength-right op)) w.3
    ∙ cond-false (nat_lt (strength op) k) _ (reduce k st (Binary op l r)) (le-ltb (strength op) k h)

-- where an operator fits, nothing is closed
pub reduce-fits : (st : List Pending) (op : Operator) (s : Tree Span) → wants st ≤ strength op → reduce (left op) st s ≡ record { stack = st; tree = s }
reduce-fits [] op s h = refl
reduce-fits (InParen ∷ st) op s h = refl
reduce-fits (InNot ∷ st) op s h = absurd (omega (arith, h, strength-four op))
reduce-fits (InBind q x t ∷ st) op s h = absurd (omega (arith, h, strength-four op))
reduce-fits (InBind2 q x ss ∷ st) op s h = absurd (omega (arith, h, strength-four op))
reduce-fits (InBinary op' l ∷ st) op s h = cond-true (nat_lt (strength op') (left op)) _ _ (lt-ltb (strength op') (left op) (fits-waits op op' h))

-- ---- terms

abbrev front : Terms Span → Option (Terms Span)
front (One t) = None
front (More ts t) = Some ts

abbrev last : Terms Span → Term Span
last (One t) = t
last (More ts t) = t

add-split : (ts : Terms Span) → add (front ts) (last ts) ≡ ts
add-split (One t) = refl
add-split (More ts t) = refl

abbrev called : Span → Option (Terms Span) → Call
called x done = record { name = x; done = done }

mutual
  reach-term : (t : Term Span) (st : List Pending) (side : Option Side) (calls : List Call) (rest : List Piece) → run (WantTerm st side calls) (spell_term t ++ rest) ≡ run (HaveTerm st side calls t) rest
  reach-term (Plain x) st side calls rest = refl
  reach-term (Applied x ts) st side calls rest =
      ap (run (WantTerm st side (called x None ∷ calls))) (append_assoc (spell_terms ts) (piece.Close ∷ []) rest)
      ∙ reach-terms ts x st side calls (piece.Close ∷ rest)
      ∙ ap (λ (us : Terms Span). run (HaveTerm st side calls (Applied x us)) rest) (add-split ts)

  reach-terms : (ts : Terms Span) (x : Span) (st : List Pending) (side : Option Side) (calls : List Call) (rest : List Piece)
      → run (WantTerm st side (called x None ∷ calls)) (spell_terms ts ++ rest) ≡ run (HaveTerm st side (called x (front ts) ∷ calls) (last ts)) rest
  reach-terms (One t) x st side calls rest = reach-term t st side (called x None ∷ calls) rest
  reach-terms (More ts t) x st side calls rest =
      ap (run (WantTerm st side (called x None ∷ calls))) (append_assoc (spell_terms ts) (piece.Comma ∷ spell_term t) rest)
      ∙ reach-terms ts x st side calls (piece.Comma ∷ spell_term t ++ rest)
      ∙ ap (λ (us : Terms Span). run (WantTerm st side (called x (Some us) ∷ calls)) (spell_term t ++ rest)) (add-split ts)
      ∙ reach-term t st side (called x (Some ts) ∷ calls) rest

-- a term at the front of a formula
reach-first : (t : Term Span) (st : List Pending) (rest : List Piece) → run (Want st) (spell_term t ++ rest) ≡ run (HaveTerm st None [] t) rest
reach-first (Plain x) st rest = refl
reach-first (Applied x ts) st rest = reach-term (Applied x ts) st None [] rest

-- the state behind a last operand
abbrev pub have_at : List Pending → Tree Span → State
have_at st (Atom t) = HaveTerm st None [] t
have_at st (Equation b at l r) = HaveTerm st (Some (record { negated = b; sign = at; term = l })) [] r
have_at st s = Have st s

abbrev pub have : Open → State
have o = have_at o.stack o.tree

have-close : (st : List Pending) (s : Tree Span) → step (have_at st s) piece.Close ≡ shut (reduce 0 st s)
have-close st (Atom t) = refl
have-close st (Equation b at l r) = refl
have-close st _ = refl

have-sign : (st : List Pending) (s : Tree Span) (op : Operator) → step (have_at st s) (piece.Sign op) ≡ operate op (reduce (left op) st s)
have-sign st (Atom t) op = refl
have-sign st (Equation b at l r) op = refl
have-sign st _ op = refl

have-finish : (st : List Pending) (s : Tree Span) → finish (have_at st s) ≡ whole (reduce 0 st s)
have-finish st (Atom t) = refl
have-finish st (Equation b at l r) = refl
have-finish st _ = refl

reach-spell_sorts : (ss : List Span) (st : List Pending) (q : Quantifier) (x : Span) (done : List Span) (rest : List Piece)
    → run (HaveSort st q x done) (spell_further ss ++ rest) ≡ run (HaveSort st q x (done ++ ss)) rest
reach-spell_sorts [] st q x done rest = ap (λ (d : List Span). run (HaveSort st q x d) rest) (sym (append-nil done))
reach-spell_sorts (s ∷ ss) st q x done rest =
    reach-spell_sorts ss st q x (done ++ s ∷ []) rest ∙ ap (λ (d : List Span). run (HaveSort st q x d) rest) (append_assoc done (s ∷ []) ss)

reach-spell_binder2 : (ss : List Span) (st : List Pending) (q : Quantifier) (x : Span) (rest : List Piece) → run (Want st) (spell_binder2 q x ss ++ rest) ≡ run (Want (InBind2 q x ss ∷ st)) rest
reach-spell_binder2 [] st q x rest = refl
reach-spell_binder2 (s ∷ ss) st q x rest =
    ap (run (HaveSort st q x (s ∷ []))) (append_assoc (spell_further ss ++ piece.Close ∷ []) (piece.Dot ∷ []) rest ∙ append_assoc (spell_further ss) (piece.Close ∷ []) (piece.Dot ∷ rest))
    ∙ reach-spell_sorts ss st q x (s ∷ []) (piece.Close ∷ piece.Dot ∷ rest)

pub reaches : (s : Tree Span) (st : List Pending) (rest : List Piece) → IsLevelled s → wants st ≤ level s → run (Want st) (spell s ++ rest) ≡ run (have (after st s)) rest
reaches (Constant b) st rest w h = refl
reaches (Atom t) st rest w h = reach-first t st rest
reaches (Equation b at l r) st rest w h =
    ap (run (Want st)) (append_assoc (spell_term l) (piece.Equals b at ∷ spell_term r) rest)
    ∙ reach-first l st (piece.Equals b at ∷ spell_term r ++ rest)
    ∙ reach-term r st (Some (record { negated = b; sign = at; term = l })) [] rest
reaches (Bind2 q x ss a) st rest w h =
    ap (run (Want st)) (append_assoc (spell_binder2 q x ss) (spell a) rest) ∙ reach-spell_binder2 ss st q x (spell a ++ rest) ∙ reaches a (InBind2 q x ss ∷ st) rest w.1 w.0
reaches (Not a) st rest w h = reaches a (InNot ∷ st) rest w.1 w.0
reaches (Bind q x None a) st rest w h = reaches a (InBind q x None ∷ st) rest w.1 w.0
reaches (Bind q x (Some s) a) st rest w h = reaches a (InBind q x (Some s) ∷ st) rest w.1 w.0
reaches (Paren a) st rest w h =
    ap (run (Want (InParen ∷ st))) (append_assoc (spell a) (piece.Close ∷ []) rest)
    ∙ reaches a (InParen ∷ st) (piece.Close ∷ rest) w (omega arith)
    ∙ ap (λ (x : State). run x rest) (have-close (after (InParen ∷ st) a).stack (after (InParen ∷ st) a).tree)
    ∙ ap (λ (o : Open). run (shut o) rest) (reduce-after a (InParen ∷ st) 0 (omega arith) w)
reaches (Binary op l r) st rest w h =
    ap (run (Want st)) (append_assoc (spell l) (piece.Sign op ∷ spell r) rest)
    ∙ reaches l st (piece.Sign op ∷ spell r ++ rest) w.1 (omega (arith, w.0, h, strength-left op))
    ∙ ap (λ (x : State). run x (spell r ++ rest)) (have-sign (after st l).stack (after st l).tree op)
    ∙ ap (λ (o : Open). run (operate op o) (spell r ++ rest)) (reduce-after l st (left op) w.0 w.1 ∙ reduce-fits st op l h)
    ∙ ap (λ (x : State). run x (spell r ++ rest)) (cond-false (nat_lt (strength op) (wants st)) Dead (Want (InBinary op l ∷ st)) (le-ltb (strength op) (wants st) h))
    ∙ reaches r (InBinary op l ∷ st) rest w.3 w.2

pub parse-spelled : (s : Tree Span) → IsLevelled s → parse (spell s) ≡ Some s
parse-spelled s w =
    ap parse (sym (append-nil (spell s)))
    ∙ ap finish (reaches s [] [] w (omega arith))
    ∙ have-finish (after [] s).stack (after [] s).tree
    ∙ ap whole (reduce-after s [] 0 (omega arith) w)

-- a text has at most one shape
some_same : {A : Type 0} (x y : A) → Some x ≡ Some y → x ≡ y
some_same x y e = cc

pub one_shape : (ts : List Piece) (s t : Tree Span) → HasShape ts s → HasShape ts t → s ≡ t
one_shape ts s t h k =
    some_same s t (sym (parse-spelled s h.levelled) ∙ ap parse (sym h.spelled ∙ k.spelled) ∙ parse-spelled t k.levelled)

-- what cannot go on is the beginning of nothing
pub run-append : (ts us : List Piece) (x : State) → run x (ts ++ us) ≡ run (run x ts) us
run-append [] us x = refl
run-append (t ∷ ts) us x = run-append ts us (step x t)

pub run-dead : (ts : List Piece) → run Dead ts ≡ Dead
run-dead [] = refl
run-dead (t ∷ ts) = run-dead ts

pub dead_is_not_viable : (ts more : List Piece) (s : Tree Span) → run (Want []) ts ≡ Dead → HasShape (ts ++ more) s → ⊥
dead_is_not_viable ts more s e h =
    let a : parse (ts ++ more) ≡ None = ap finish (run-append ts more (Want []) ∙ ap (λ (x : State). run x more) e ∙ run-dead more) in
    let b : parse (ts ++ more) ≡ Some s = ap parse h.spelled ∙ parse-spelled s h.levelled in
    cc

-- Something may go on behind the state.
abbrev pub IsAlive : State → Type 0
IsAlive Dead = ⊥
IsAlive _ = Unit {0}

-- a state other than the dead one is alive
pub alive : (x : State) → (x ≡ Dead → ⊥) → IsAlive x
alive Dead n = n refl
alive _ n = tt

-- what leads to a living state is alive
pub alive-before : (ts : List Piece) (x : State) → IsAlive (run x ts) → IsAlive x
alive-before ts Dead a = subst IsAlive (run-dead ts) a
alive-before ts _ a = tt

-- where a formula stands whole, the state is alive
pub finish-alive : (x : State) (s : Tree Span) → finish x ≡ Some s → IsAlive x
finish-alive Dead s e = absurd cc
finish-alive _ s e = tt
