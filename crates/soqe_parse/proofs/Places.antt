-- A text has at most one problem, and no more than one of a problem and a place of its fault.
--
-- A text falls into tokens in one way, so two readings speak of the same pieces. What begins a problem is closed under
-- taking fronts (`viable-front`), so there is one first token after which no problem goes on, and none in a problem.
use Rattle.std.proofs.Common.{◌≡◌, ℕ, ◌+◌, ◌≤◌, ◌<◌, List, [], ◌∷◌, ◌++◌, length, get_or, take, drop, map, Option, Some, None, refl, sym, ap, subst, ◌∙◌, append_assoc, arith, inl, inr}
use Rattle.std.specs.Prelude.{slice_get}
use Rattle.std.proofs.lemmas.List.{append-nil, map-append, take-append-drop, take-take, take_more}
use Rattle.std.proofs.lemmas.Bool.{cases_order}
use Rattle.soqe_lex.specs.declared.token.Token.{Token}
use Rattle.soqe_lex.specs.Lexical.{Lexed}
use Rattle.soqe_lex.proofs.Lexing.{one_reading}
use Rattle.soqe_syntax.specs.declared.piece.Span.{Span}
use Rattle.soqe_syntax.specs.declared.piece.Piece.{Piece}
use Rattle.soqe_syntax.specs.Grammar.{Problem, HasProblemShape}
use Rattle.soqe_syntax.specs.Pieces.{piece_of, HasProblem}
use Rattle.soqe_parse.specs.Items.{Between, Dead, step, run, parse}
use Rattle.soqe_parse.specs.Faults.{IsViable, IsFaultIn, at_token, at_byte, at_end}
use Rattle.soqe_parse.specs.Laws.{OneProblem, FaultOrProblem, OnePlace}
use Rattle.soqe_parse.proofs.ProblemComplete.{one_problem_shape, shape-parsed, run-append, dead_is_not_viable}
use Rattle.soqe_parse.proofs.ProblemSound.{parse-sound}
use Rattle.soqe_parse.proofs.ProblemViable.{living_is_viable}

-- the pieces of the first n tokens
abbrev pub front : List ℕ → ℕ → List Token → List Piece
front bytes n ts = map (piece_of bytes) (take n ts)

-- ---- fronts

-- what begins a problem begins with the beginning of one
pub viable-front : (ps us : List Piece) → IsViable (ps ++ us) → IsViable ps
viable-front ps us v = record { more = us ++ v.more; problem = v.problem; shape = record { levelled = v.shape.levelled; spelled = sym (append_assoc ps us v.more) ∙ v.shape.spelled } }

-- a problem begins with its own pieces
pub whole-viable : (ps : List Piece) (p : Problem Span) → HasProblemShape ps p → IsViable ps
whole-viable ps p h = record { more = []; problem = p; shape = record { levelled = h.levelled; spelled = append-nil ps ∙ h.spelled } }

pub take-viable : (bytes : List ℕ) (n : ℕ) (ts : List Token) → IsViable (map (piece_of bytes) ts) → IsViable (front bytes n ts)
take-viable bytes n ts v =
    viable-front (front bytes n ts) (map (piece_of bytes) (drop n ts))
    (subst IsViable (ap (map (piece_of bytes)) (sym (take-append-drop n ts)) ∙ map-append (piece_of bytes) (take n ts) (drop n ts)) v)

pub front-viable : (bytes : List ℕ) (m n : ℕ) (ts : List Token) → m ≤ n → IsViable (front bytes n ts) → IsViable (front bytes m ts)
front-viable bytes m n ts le v = subst IsViable (ap (map (piece_of bytes)) (take-take m n ts le)) (take-viable bytes m (take n ts) v)

-- ---- a problem or a fault

pub one_problem : OneProblem
one_problem bytes p q h k =
    let same = (one_reading k.lexed h.lexed).0 in
    one_problem_shape (map (piece_of bytes) h.tokens) p q h.shape (subst (λ (ts : List Token). HasProblemShape (map (piece_of bytes) ts) q) same k.shape)

fault-none : (bytes : List ℕ) (ts : List Token) (stop : Option ℕ) (at : ℕ) (p : Problem Span) → stop ≡ None → HasProblemShape (map (piece_of bytes) ts) p → IsFaultIn bytes ts stop at → ⊥
fault-none bytes ts stop at p e h (at_token n token get start viable dead) = dead (take-viable bytes (n + 1) ts (whole-viable (map (piece_of bytes) ts) p h))
fault-none bytes ts stop at p e h (at_byte is viable) = absurd cc
fault-none bytes ts stop at p e h (at_end is place viable none) = none p h

pub fault_or_problem : FaultOrProblem
fault_or_problem bytes at p f h =
    let same = one_reading h.lexed f.lexed in
    fault-none bytes f.tokens f.stop at p (sym same.1) (subst (λ (ts : List Token). HasProblemShape (map (piece_of bytes) ts) p) same.0 h.shape) f.fault

-- ---- one place

-- the first token after which nothing goes on is one
one-token : (bytes : List ℕ) (m n : ℕ) (ts : List Token)
    → IsViable (front bytes m ts) → (IsViable (front bytes (m + 1) ts) → ⊥) → IsViable (front bytes n ts) → (IsViable (front bytes (n + 1) ts) → ⊥) → m ≡ n
one-token bytes m n ts v dead w dead' =
    elim (cases_order m n) [
      | inl e ↦ e
      | inr o ↦ elim o [
        | inl lt ↦ absurd (dead (front-viable bytes (m + 1) n ts (omega arith) w))
        | inr gt ↦ absurd (dead' (front-viable bytes (n + 1) m ts (omega arith) v))
      ]
    ]

pub same-start : (ts : List Token) (m n : ℕ) (t u : Token) → m ≡ n → slice_get ts m ≡ Some t → slice_get ts n ≡ Some u → t.start ≡ u.start
same-start ts m n t u e g h =
    let same : t ≡ u = cc (ap (slice_get ts) e) in
    ap (λ (x : Token). x.start) same

one-fault : {bytes : List ℕ} {ts : List Token} {stop : Option ℕ} {at other : ℕ} → IsFaultIn bytes ts stop at → IsFaultIn bytes ts stop other → at ≡ other
one-fault {bytes} {ts} (at_token n t get start v dead) (at_token m u get' start' w dead') =
    sym start ∙ same-start ts n m t u (one-token bytes n m ts v dead w dead') get get' ∙ start'
one-fault {bytes} {ts} (at_token n t get start v dead) (at_byte is w) = absurd (dead (take-viable bytes (n + 1) ts w))
one-fault {bytes} {ts} (at_token n t get start v dead) (at_end is place w none) = absurd (dead (take-viable bytes (n + 1) ts w))
one-fault {bytes} {ts} (at_byte is w) (at_token n t get start v dead) = absurd (dead (take-viable bytes (n + 1) ts w))
one-fault (at_byte is w) (at_byte is' w') = cc
one-fault (at_byte is w) (at_end is' place w' none) = absurd cc
one-fault {bytes} {ts} (at_end is place w none) (at_token n t get start v dead) = absurd (dead (take-viable bytes (n + 1) ts w))
one-fault (at_end is place w none) (at_byte is' w') = absurd cc
one-fault (at_end is place w none) (at_end is' place' w' none') = place ∙ sym place'

pub one_place : OnePlace
one_place bytes at other f g =
    let same = one_reading g.lexed f.lexed in
    let e : IsFaultIn bytes f.tokens g.stop other = subst (λ (ts : List Token). IsFaultIn bytes ts g.stop other) same.0 g.fault in
    one-fault f.fault (subst (λ (stop : Option ℕ). IsFaultIn bytes f.tokens stop other) same.1 e)

-- ---- the place that the machine finds

-- the first token that leads to the dead state
pub dead-token : (bytes : List ℕ) (ts : List Token) (stop : Option ℕ) (n : ℕ) (token : Token) → slice_get ts n ≡ Some token
    → (run (Between []) (front bytes n ts) ≡ Dead → ⊥) → run (Between []) (front bytes (n + 1) ts) ≡ Dead → IsFaultIn bytes ts stop token.start
dead-token bytes ts stop n token get living dead =
    at_token n token get refl (living_is_viable (front bytes n ts) living) (dead_is_not_viable (front bytes (n + 1) ts) dead)

-- a byte that begins no token, behind tokens that go on
pub stopped-byte : (bytes : List ℕ) (ts : List Token) (at : ℕ) → (run (Between []) (map (piece_of bytes) ts) ≡ Dead → ⊥) → IsFaultIn bytes ts (Some at) at
stopped-byte bytes ts at living = at_byte refl (living_is_viable (map (piece_of bytes) ts) living)

-- an end behind tokens that go on, but aren't a problem yet
pub early-end : (bytes : List ℕ) (ts : List Token) → (run (Between []) (map (piece_of bytes) ts) ≡ Dead → ⊥) → parse (map (piece_of bytes) ts) ≡ None
    → IsFaultIn bytes ts None (length bytes)
early-end bytes ts living none =
    at_end refl refl (living_is_viable (map (piece_of bytes) ts) living)
    (λ p h. let e = shape-parsed (map (piece_of bytes) ts) p h in absurd cc)

-- the state behind one more token
pub run-next : (bytes : List ℕ) (ts : List Token) (n : ℕ) (d : Token) → n < length ts
    → run (Between []) (front bytes (n + 1) ts) ≡ step (run (Between []) (front bytes n ts)) (piece_of bytes (get_or ts n d))
run-next bytes ts n d lt =
    ap (λ (x : List Token). run (Between []) (map (piece_of bytes) x)) (take_more ts n d lt)
    ∙ ap (run (Between [])) (map-append (piece_of bytes) (take n ts) (get_or ts n d ∷ []))
    ∙ run-append (front bytes n ts) (piece_of bytes (get_or ts n d) ∷ []) (Between [])

-- the problem that the machine answers
pub problem-found : (bytes : List ℕ) (ts : List Token) (p : Problem Span) → Lexed 0 bytes ts None → parse (map (piece_of bytes) ts) ≡ Some p → HasProblem bytes p
problem-found bytes ts p l e = record { tokens = ts; lexed = l; shape = parse-sound (map (piece_of bytes) ts) p e }
