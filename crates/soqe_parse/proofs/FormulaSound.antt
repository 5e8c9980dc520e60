-- What is read has the shape that is answered.
--
-- Each state of the machine spells the pieces that led to it (`Reads`): what waits stands in front of the operand, and
-- each left operand on the stack is as tight as its operator asks. A step keeps this (`step-keeps`), so a formula that
-- is read whole is levelled and spelled by exactly the pieces read (`parse-sound`).
use Rattle.std.proofs.Common.{◌≡◌, ℕ, ◌≤◌, Bool, List, [], ◌∷◌, ◌++◌, Option, Some, None, refl, sym, ap, subst, ◌∙◌, append_assoc, arith, nat_lt, false}
use Rattle.std.proofs.lemmas.List.{append-nil}
use Rattle.std.proofs.lemmas.Bool.{ltb-false, cond_both}
use Rattle.soqe_syntax.specs.declared.piece.Span.{Span}
use Rattle.soqe_syntax.specs.declared.piece.Quantifier.{Quantifier}
use Rattle.soqe_syntax.specs.declared.piece.Operator.{Operator}
use Rattle.soqe_syntax.specs.declared.piece.Operator.TheVariants.{And, Or, Imp, Iff}
use Rattle.soqe_syntax.specs.declared.piece.Piece.{Piece}
use Rattle.soqe_syntax.specs.declared.piece.Piece.TheVariants as piece
use Rattle.soqe_syntax.specs.Grammar.{Term, Plain, Applied, Terms, spell_term, spell_terms, spell_further, spell_sorts, spell_binder2, Tree, strength, left, level, IsLevelled, spell, spell_binder, HasShape}
use Rattle.soqe_parse.specs.Machine.{InBind2, Side, Call, WantTerm, HaveTerm, Quantified2, Named2, WantSort, HaveSort, Sorted2, add, atomic, term_open, term_comma, term_close, term_equals, term_sign, Pending, InParen, InNot, InBind, InBinary, State, Want, Have, Quantified, Named, Sorting, Sorted, Dead, wants, Open, reduce, operate, shut_at, shut, step, run, whole_at, finish, parse, waits, close}

-- the pieces with which what waits begins
abbrev pub opening : Pending → List Piece
opening InParen = piece.Open ∷ []
opening InNot = piece.Tilde ∷ []
opening (InBind q x s) = spell_binder q x s
opening (InBind2 q x ss) = spell_binder2 q x ss
opening (InBinary op l) = spell l ++ piece.Sign op ∷ []

-- the pieces that led to a stack
abbrev pub prefix : List Pending → List Piece
prefix [] = []
prefix (f ∷ st) = prefix st ++ opening f

-- Each left operand is tight enough, and each operator for its place.
abbrev pub Stands : List Pending → Type 0
Stands [] = Unit {0}
Stands (InParen ∷ st) = Stands st
Stands (InNot ∷ st) = Stands st
Stands (InBind q x s ∷ st) = Stands st
Stands (InBind2 q x ss ∷ st) = Stands st
Stands (InBinary op l ∷ st) = (left op ≤ level l) × IsLevelled l × (wants st ≤ strength op) × Stands st

pub wants-four : (st : List Pending) → wants st ≤ 4
wants-four [] = omega arith
wants-four (InParen ∷ st) = omega arith
wants-four (InNot ∷ st) = omega arith
wants-four (InBind q x s ∷ st) = omega arith
wants-four (InBind2 q x ss ∷ st) = omega arith
wants-four (InBinary And l ∷ st) = omega arith
wants-four (InBinary Or l ∷ st) = omega arith
wants-four (InBinary Imp l ∷ st) = omega arith
wants-four (InBinary Iff l ∷ st) = omega arith

-- A stack and an operand that fits it, which have the pieces ts.
pub record Fits (k : ℕ) (ts : List Piece) (o : Open) : Type 0 where
  pub stands : Stands o.stack
  pub wanted : wants o.stack ≤ level o.tree
  pub levelled : IsLevelled o.tree
  pub tight : k ≤ level o.tree
  pub pieces : prefix o.stack ++ spell o.tree ≡ ts

abbrev pub at : List Pending → Tree Span → Open
at st s = record { stack = st; tree = s }

-- what doesn't wait on is closed by its operand
pub close-fits : (f : Pending) (st : List Pending) (s : Tree Span) (k : ℕ) (ts : List Piece) → k ≤ 4 → waits k f ≡ false → Fits k ts (at (f ∷ st) s) → Fits k ts (at st (close f s))
close-fits InParen st s k ts four e h = absurd cc
close-fits InNot st s k ts four e h = record {
  stands = h.stands;
  wanted = wants-four st;
  levelled = (h.wanted, h.levelled);
  tight = four;
  pieces = sym (append_assoc (prefix st) (opening InNot) (spell s)) ∙ h.pieces;
}
close-fits (InBind q x t) st s k ts four e h = record {
  stands = h.stands;
  wanted = wants-four st;
  levelled = (h.wanted, h.levelled);
  tight = four;
  pieces = sym (append_assoc (prefix st) (spell_binder q x t) (spell s)) ∙ h.pieces;
}
close-fits (InBind2 q x t) st s k ts four e h = record {
  stands = h.stands;
  wanted = wants-four st;
  levelled = (h.wanted, h.levelled);
  tight = four;
  pieces = sym (append_assoc (prefix st) (spell_binder2 q x t) (spell s)) ∙ h.pieces;
}
close-fits (InBinary op l) st s k ts four e h = record {
  stands = h.stands.3;
  wanted = h.stands.2;
  levelled = (h.stands.0, h.stands.1, h.wanted, h.levelled);
  tight = ltb-false (strength op) k e;
  pieces = ap (λ (r : List Piece). prefix st ++ r) (sym (append_assoc (spell l) (piece.Sign op ∷ []) (spell s)))
      ∙ sym (append_assoc (prefix st) (opening (InBinary op l)) (spell s)) ∙ h.pieces;
}

pub reduce-keeps : (st : List Pending) (s : Tree Span) (k : ℕ) (ts : List Piece) → k ≤ 4 → Fits k ts (at st s) → Fits k ts (reduce k st s)
reduce-keeps [] s k ts four h = h
reduce-keeps (f ∷ st) s k ts four h =
    cond_both (waits k f) (at (f ∷ st) s) (reduce k st (close f s)) (Fits k ts) (λ e. h)
    (λ e. reduce-keeps st (close f s) k ts four (close-fits f st s k ts four e h))

abbrev pub done_pieces : Option (Terms Span) → List Piece
done_pieces None = []
done_pieces (Some ts) = spell_terms ts ++ piece.Comma ∷ []

abbrev pub call_pieces : Call → List Piece
call_pieces c = piece.Name c.name ∷ piece.Open ∷ done_pieces c.done

abbrev pub calls_pieces : List Call → List Piece
calls_pieces [] = []
calls_pieces (c ∷ calls) = calls_pieces calls ++ call_pieces c

abbrev pub side_pieces : Option Side → List Piece
side_pieces None = []
side_pieces (Some s) = spell_term s.term ++ piece.Equals s.negated s.sign ∷ []

-- what stands in front of a term
abbrev pub before : List Pending → Option Side → List Call → List Piece
before st side calls = (prefix st ++ side_pieces side) ++ calls_pieces calls

-- spell_sorts that are read so far, with the sign in front of the next one
abbrev pub sorts_before : List Span → List Piece
sorts_before [] = piece.Open ∷ []
sorts_before (s ∷ ss) = piece.Open ∷ piece.Name s ∷ spell_further ss ++ piece.Comma ∷ []

abbrev pub sorts_open : List Span → List Piece
sorts_open [] = piece.Open ∷ []
sorts_open (s ∷ ss) = piece.Open ∷ piece.Name s ∷ spell_further ss

abbrev pub IsNonempty : List Span → Type 0
IsNonempty [] = ⊥
IsNonempty (s ∷ ss) = Unit {0}

-- The pieces so far are ts, and the state is what they leave.
abbrev pub Reads : List Piece → State → Type 0
Reads ts (Want st) = Stands st × (prefix st ≡ ts)
Reads ts (Have st s) = Fits 4 ts (record { stack = st; tree = s })
Reads ts (Quantified st q) = Stands st × (prefix st ++ piece.Binder q ∷ [] ≡ ts)
Reads ts (Named st q x) = Stands st × (prefix st ++ piece.Binder q ∷ piece.Name x ∷ [] ≡ ts)
Reads ts (Sorting st q x) = Stands st × (prefix st ++ piece.Binder q ∷ piece.Name x ∷ piece.Colon ∷ [] ≡ ts)
Reads ts (Sorted st q x s) = Stands st × (prefix st ++ piece.Binder q ∷ piece.Name x ∷ piece.Colon ∷ piece.Name s ∷ [] ≡ ts)
Reads ts (WantTerm st side calls) = Stands st × (before st side calls ≡ ts)
Reads ts (HaveTerm st side calls t) = Stands st × (before st side calls ++ spell_term t ≡ ts)
Reads ts (Quantified2 st q) = Stands st × (prefix st ++ piece.Binder2 q ∷ [] ≡ ts)
Reads ts (Named2 st q x) = Stands st × (prefix st ++ piece.Binder2 q ∷ piece.Name x ∷ [] ≡ ts)
Reads ts (WantSort st q x ss) = Stands st × (prefix st ++ piece.Binder2 q ∷ piece.Name x ∷ sorts_before ss ≡ ts)
Reads ts (HaveSort st q x ss) = Stands st × IsNonempty ss × (prefix st ++ piece.Binder2 q ∷ piece.Name x ∷ sorts_open ss ≡ ts)
Reads ts (Sorted2 st q x ss) = Stands st × IsNonempty ss × (prefix st ++ piece.Binder2 q ∷ piece.Name x ∷ spell_sorts ss ≡ ts)
Reads ts Dead = Unit {0}

abbrev pub looser : {k : ℕ} {ts : List Piece} {o : Open} → (j : ℕ) → j ≤ k → Fits k ts o → Fits j ts o
looser {k} {ts} {o} j le h = record { stands = h.stands; wanted = h.wanted; levelled = h.levelled; tight = omega (arith, h.tight); pieces = h.pieces }

operate-keeps : (op : Operator) (o : Open) (ts : List Piece) → Fits (left op) ts o → Reads (ts ++ piece.Sign op ∷ []) (operate op o)
operate-keeps op o ts h =
    cond_both (nat_lt (strength op) (wants o.stack)) Dead (Want (InBinary op o.tree ∷ o.stack)) (Reads (ts ++ piece.Sign op ∷ []))
    (λ e. tt)
    (λ e. (
      (h.tight, h.levelled, ltb-false (strength op) (wants o.stack) e, h.stands),
      sym (append_assoc (prefix o.stack) (spell o.tree) (piece.Sign op ∷ [])) ∙ ap (λ (r : List Piece). r ++ piece.Sign op ∷ []) h.pieces,
    ))

pub shut-keeps : (st : List Pending) (s : Tree Span) (ts : List Piece) → Fits 0 ts (at st s) → Reads (ts ++ piece.Close ∷ []) (shut_at st s)
shut-keeps (InParen ∷ st) s ts h =
    record {
      stands = h.stands;
      wanted = wants-four st;
      levelled = h.levelled;
      tight = omega arith;
      pieces = sym (append_assoc (prefix st) (piece.Open ∷ spell s) (piece.Close ∷ []))
          ∙ ap (λ (r : List Piece). r ++ piece.Close ∷ []) (sym (append_assoc (prefix st) (piece.Open ∷ []) (spell s)) ∙ h.pieces);
    }
shut-keeps _ s ts h = tt

left-four : (op : Operator) → left op ≤ 4
left-four And = omega arith
left-four Or = omega arith
left-four Imp = omega arith
left-four Iff = omega arith

abbrev push : Piece → List Piece → List Piece
push t r = r ++ t ∷ []

spell-add : (done : Option (Terms Span)) (t : Term Span) → spell_terms (add done t) ≡ done_pieces done ++ spell_term t
spell-add None t = refl
spell-add (Some ts) t = sym (append_assoc (spell_terms ts) (piece.Comma ∷ []) (spell_term t))

spell-atomic : (side : Option Side) (t : Term Span) → spell (atomic side t) ≡ side_pieces side ++ spell_term t
spell-atomic None t = refl
spell-atomic (Some s) t = sym (append_assoc (spell_term s.term) (piece.Equals s.negated s.sign ∷ []) (spell_term t))

atomic-level : (side : Option Side) (t : Term Span) → level (atomic side t) ≡ 4
atomic-level None t = refl
atomic-level (Some s) t = refl

atomic-levelled : (side : Option Side) (t : Term Span) → IsLevelled (atomic side t)
atomic-levelled None t = tt
atomic-levelled (Some s) t = tt

-- a term with no calls round it is an operand
pub atomic-fits : (st : List Pending) (side : Option Side) (t : Term Span) (ts : List Piece) → Reads ts (HaveTerm st side [] t) → Fits 4 ts (at st (atomic side t))
atomic-fits st side t ts h = record {
  stands = h.0;
  wanted = omega (arith, wants-four st, atomic-level side t);
  levelled = atomic-levelled side t;
  tight = omega (arith, atomic-level side t);
  pieces = ap (λ (r : List Piece). prefix st ++ r) (spell-atomic side t) ∙ sym (append_assoc (prefix st) (side_pieces side) (spell_term t)) ∙ ap (λ (r : List Piece). r ++ spell_term t) (sym (append-nil (prefix st ++ side_pieces side))) ∙ h.1;
}

sign-keeps : (op : Operator) (st : List Pending) (s : Tree Span) (ts : List Piece) → Fits 4 ts (at st s) → Reads (ts ++ piece.Sign op ∷ []) (operate op (reduce (left op) st s))
sign-keeps op st s ts h = operate-keeps op (reduce (left op) st s) ts (reduce-keeps st s (left op) ts (left-four op) (looser (left op) (left-four op) h))

close-keeps : (st : List Pending) (s : Tree Span) (ts : List Piece) → Fits 4 ts (at st s) → Reads (ts ++ piece.Close ∷ []) (shut (reduce 0 st s))
close-keeps st s ts h =
    let f = reduce-keeps st s 0 ts (omega arith) (looser 0 (omega arith) h) in
    shut-keeps (reduce 0 st s).stack (reduce 0 st s).tree ts f

term-open-keeps : (st : List Pending) (side : Option Side) (calls : List Call) (t : Term Span) (ts : List Piece) → Reads ts (HaveTerm st side calls t) → Reads (ts ++ piece.Open ∷ []) (term_open st side calls t)
term-open-keeps st side calls (Plain x) ts h = (
  h.0,
  sym (append_assoc (prefix st ++ side_pieces side) (calls_pieces calls) (piece.Name x ∷ piece.Open ∷ []))
      ∙ sym (append_assoc (before st side calls) (piece.Name x ∷ []) (piece.Open ∷ [])) ∙ ap (push piece.Open) h.1,
)
term-open-keeps st side calls (Applied x us) ts h = tt

term-comma-keeps : (st : List Pending) (side : Option Side) (calls : List Call) (t : Term Span) (ts : List Piece) → Reads ts (HaveTerm st side calls t) → Reads (ts ++ piece.Comma ∷ []) (term_comma st side calls t)
term-comma-keeps st side [] t ts h = tt
term-comma-keeps st side (c ∷ calls) t ts h = (h.0, regroup ∙ ap (push piece.Comma) h.1)
  where
    regroup : before st side (record { name = c.name; done = Some (add c.done t) } ∷ calls) ≡ (before st side (c ∷ calls) ++ spell_term t) ++ piece.Comma ∷ []
    regroup = simp (spell-add, append_assoc)

pub term-close-keeps : (st : List Pending) (side : Option Side) (calls : List Call) (t : Term Span) (ts : List Piece) → Reads ts (HaveTerm st side calls t) → Reads (ts ++ piece.Close ∷ []) (term_close st side calls t)
term-close-keeps st side [] t ts h = close-keeps st (atomic side t) ts (atomic-fits st side t ts h)
term-close-keeps st side (c ∷ calls) t ts h = (h.0, regroup ∙ ap (push piece.Close) h.1)
  where
    regroup : before st side calls ++ spell_term (Applied c.name (add c.done t)) ≡ (before st side (c ∷ calls) ++ spell_term t) ++ piece.Close ∷ []
    regroup = simp (spell-add, append_assoc)

term-equals-keeps : (b : Bool) (n : Span) (st : List Pending) (side : Option Side) (calls : List Call) (t : Term Span) (ts : List Piece) → Reads ts (HaveTerm st side calls t) → Reads (ts ++ piece.Equals b n ∷ []) (term_equals b n st side calls t)
term-equals-keeps b n st None [] t ts h = (h.0, regroup ∙ ap (push (piece.Equals b n)) h.1)
  where
    regroup : before st (Some (record { negated = b; sign = n; term = t })) [] ≡ (before st None [] ++ spell_term t) ++ piece.Equals b n ∷ []
    regroup = simp (append_assoc, append-nil)
term-equals-keeps b n st _ _ t ts h = tt

term-sign-keeps : (op : Operator) (st : List Pending) (side : Option Side) (calls : List Call) (t : Term Span) (ts : List Piece) → Reads ts (HaveTerm st side calls t) → Reads (ts ++ piece.Sign op ∷ []) (term_sign op st side calls t)
term-sign-keeps op st side [] t ts h = sign-keeps op st (atomic side t) ts (atomic-fits st side t ts h)
term-sign-keeps op st side (c ∷ calls) t ts h = tt

further-push : (ss : List Span) (s : Span) → spell_further (ss ++ s ∷ []) ≡ spell_further ss ++ piece.Comma ∷ piece.Name s ∷ []
further-push [] s = refl
further-push (x ∷ ss) s = ap (λ (r : List Piece). piece.Comma ∷ piece.Name x ∷ r) (further-push ss s)

-- one more sort
pub open-push : (ss : List Span) (s : Span) → sorts_open (ss ++ s ∷ []) ≡ sorts_before ss ++ piece.Name s ∷ []
open-push [] s = refl
open-push (x ∷ ss) s =
    ap (λ (r : List Piece). piece.Open ∷ piece.Name x ∷ r) (further-push ss s ∙ sym (append_assoc (spell_further ss) (piece.Comma ∷ []) (piece.Name s ∷ [])))

-- a comma behind the sorts
pub before-open : (ss : List Span) → IsNonempty ss → sorts_before ss ≡ sorts_open ss ++ piece.Comma ∷ []
before-open [] h = absurd h
before-open (s ∷ ss) h = refl

-- a parenthesis behind the sorts
pub sorts-open : (ss : List Span) → IsNonempty ss → spell_sorts ss ≡ sorts_open ss ++ piece.Close ∷ []
sorts-open [] h = absurd h
sorts-open (s ∷ ss) h = refl

pub some-push : (ss : List Span) (s : Span) → IsNonempty (ss ++ s ∷ [])
some-push [] s = tt
some-push (x ∷ ss) s = tt

-- what stands behind the name of a predicate's binder, and one piece more of it
binder2-keeps : (st : List Pending) (q : Quantifier) (x : Span) (us vs : List Piece) (t : Piece) (ts : List Piece)
    → vs ≡ us ++ t ∷ [] → prefix st ++ piece.Binder2 q ∷ piece.Name x ∷ us ≡ ts → prefix st ++ piece.Binder2 q ∷ piece.Name x ∷ vs ≡ ts ++ t ∷ []
binder2-keeps st q x us vs t ts e h =
    ap (λ (r : List Piece). prefix st ++ piece.Binder2 q ∷ piece.Name x ∷ r) e
    ∙ sym (append_assoc (prefix st) (piece.Binder2 q ∷ piece.Name x ∷ us) (t ∷ [])) ∙ ap (push t) h

pub step-keeps : (x : State) (t : Piece) (ts : List Piece) → Reads ts x → Reads (ts ++ t ∷ []) (step x t)
step-keeps (Want st) (piece.Constant b) ts h = record { stands = h.0; wanted = wants-four st; levelled = tt; tight = omega arith; pieces = ap (push (piece.Constant b)) h.1 }
step-keeps (Want st) (piece.Name n) ts h = (h.0, ap (λ (r : List Piece). r ++ piece.Name n ∷ []) (append-nil (prefix st ++ []) ∙ append-nil (prefix st)) ∙ ap (push (piece.Name n)) h.1)
step-keeps (Want st) (piece.Binder2 q) ts h = (h.0, ap (push (piece.Binder2 q)) h.1)
step-keeps (Want st) piece.Open ts h = (h.0, ap (push piece.Open) h.1)
step-keeps (Want st) piece.Tilde ts h = (h.0, ap (push piece.Tilde) h.1)
step-keeps (Want st) (piece.Binder q) ts h = (h.0, ap (push (piece.Binder q)) h.1)
step-keeps (Have st s) (piece.Sign op) ts h = sign-keeps op st s ts h
step-keeps (Have st s) piece.Close ts h = close-keeps st s ts h
step-keeps (Quantified st q) (piece.Name x) ts h = (h.0, sym (append_assoc (prefix st) (piece.Binder q ∷ []) (piece.Name x ∷ [])) ∙ ap (push (piece.Name x)) h.1)
step-keeps (Named st q x) piece.Dot ts h = (h.0, sym (append_assoc (prefix st) (piece.Binder q ∷ piece.Name x ∷ []) (piece.Dot ∷ [])) ∙ ap (push piece.Dot) h.1)
step-keeps (Named st q x) piece.Colon ts h = (h.0, sym (append_assoc (prefix st) (piece.Binder q ∷ piece.Name x ∷ []) (piece.Colon ∷ [])) ∙ ap (push piece.Colon) h.1)
step-keeps (Sorting st q x) (piece.Name s) ts h = (h.0, sym (append_assoc (prefix st) (piece.Binder q ∷ piece.Name x ∷ piece.Colon ∷ []) (piece.Name s ∷ [])) ∙ ap (push (piece.Name s)) h.1)
step-keeps (Sorted st q x s) piece.Dot ts h = (h.0, sym (append_assoc (prefix st) (piece.Binder q ∷ piece.Name x ∷ piece.Colon ∷ piece.Name s ∷ []) (piece.Dot ∷ [])) ∙ ap (push piece.Dot) h.1)
step-keeps (WantTerm st side calls) (piece.Name x) ts h = (h.0, ap (push (piece.Name x)) h.1)
step-keeps (HaveTerm st side calls t) piece.Open ts h = term-open-keeps st side calls t ts h
step-keeps (HaveTerm st side calls t) piece.Comma ts h = term-comma-keeps st side calls t ts h
step-keeps (HaveTerm st side calls t) piece.Close ts h = term-close-keeps st side calls t ts h
step-keeps (HaveTerm st side calls t) (piece.Equals b n) ts h = term-equals-keeps b n st side calls t ts h
step-keeps (HaveTerm st side calls t) (piece.Sign op) ts h = term-sign-keeps op st side calls t ts h
step-keeps (Quantified2 st q) (piece.Name x) ts h = (h.0, sym (append_assoc (prefix st) (piece.Binder2 q ∷ []) (piece.Name x ∷ [])) ∙ ap (push (piece.Name x)) h.1)
step-keeps (Named2 st q x) piece.Dot ts h = (h.0, sym (append_assoc (prefix st) (piece.Binder2 q ∷ piece.Name x ∷ []) (piece.Dot ∷ [])) ∙ ap (push piece.Dot) h.1)
step-keeps (Named2 st q x) piece.Open ts h = (h.0, sym (append_assoc (prefix st) (piece.Binder2 q ∷ piece.Name x ∷ []) (piece.Open ∷ [])) ∙ ap (push piece.Open) h.1)
step-keeps (WantSort st q x ss) (piece.Name s) ts h = (h.0, some-push ss s, binder2-keeps st q x (sorts_before ss) (sorts_open (ss ++ s ∷ [])) (piece.Name s) ts (open-push ss s) h.1)
step-keeps (HaveSort st q x ss) piece.Comma ts h = (h.0, binder2-keeps st q x (sorts_open ss) (sorts_before ss) piece.Comma ts (before-open ss h.1) h.2)
step-keeps (HaveSort st q x ss) piece.Close ts h = (h.0, h.1, binder2-keeps st q x (sorts_open ss) (spell_sorts ss) piece.Close ts (sorts-open ss h.1) h.2)
step-keeps (Sorted2 st q x ss) piece.Dot ts h = (h.0, sym (append_assoc (prefix st) (piece.Binder2 q ∷ piece.Name x ∷ spell_sorts ss) (piece.Dot ∷ [])) ∙ ap (push piece.Dot) h.2)
step-keeps _ _ ts h = tt

pub run-keeps : (us : List Piece) (x : State) (ts : List Piece) → Reads ts x → Reads (ts ++ us) (run x us)
run-keeps [] x ts h = subst (λ (r : List Piece). Reads r x) (sym (append-nil ts)) h
run-keeps (u ∷ us) x ts h =
    subst (λ (r : List Piece). Reads r (run (step x u) us)) (append_assoc ts (u ∷ []) us) (run-keeps us (step x u) (ts ++ u ∷ []) (step-keeps x u ts h))

whole-found : (st : List Pending) (s t : Tree Span) (ts : List Piece) → Fits 0 ts (at st s) → whole_at st s ≡ Some t → HasShape ts t
whole-found [] s t ts h e =
    let same : s ≡ t = cc in
    subst (HasShape ts) same (record { levelled = h.levelled; spelled = sym h.pieces })
whole-found (f ∷ st) s t ts h e = absurd cc

pub finish-found : (x : State) (ts : List Piece) (t : Tree Span) → Reads ts x → finish x ≡ Some t → HasShape ts t
finish-found (Have st s) ts t h e =
    let f = reduce-keeps st s 0 ts (omega arith) (looser 0 (omega arith) h) in
    whole-found (reduce 0 st s).stack (reduce 0 st s).tree t ts f e
finish-found (HaveTerm st side [] t) ts u h e =
    let f = reduce-keeps st (atomic side t) 0 ts (omega arith) (looser 0 (omega arith) (atomic-fits st side t ts h)) in
    whole-found (reduce 0 st (atomic side t)).stack (reduce 0 st (atomic side t)).tree u ts f e
finish-found _ ts t h e = absurd cc

pub parse-sound : (ts : List Piece) (t : Tree Span) → parse ts ≡ Some t → HasShape ts t
parse-sound ts t e = finish-found (run (Want []) ts) ts t (run-keeps ts (Want []) [] (tt, refl)) e
