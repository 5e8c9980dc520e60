-- A text has at most one formula by itself, and no more than one of a formula and a place of its fault.
--
-- As for problems (Places): what begins a formula is closed under taking fronts, so there is one first token after which no
-- formula goes on, and none in a formula.
use Rattle.std.proofs.Common.{◌≡◌, ℕ, ◌+◌, ◌≤◌, List, [], ◌++◌, length, take, drop, map, Option, Some, None, refl, sym, ap, subst, ◌∙◌, append_assoc, arith, inl, inr}
use Rattle.std.specs.Prelude.{slice_get}
use Rattle.std.proofs.lemmas.List.{append-nil, map-append, take-append-drop, take-take}
use Rattle.std.proofs.lemmas.Bool.{cases_order}
use Rattle.soqe_lex.specs.declared.token.Token.{Token}
use Rattle.soqe_lex.specs.Lexical.{Lexed}
use Rattle.soqe_lex.proofs.Lexing.{one_reading}
use Rattle.soqe_syntax.specs.declared.piece.Span.{Span}
use Rattle.soqe_syntax.specs.declared.piece.Piece.{Piece}
use Rattle.soqe_syntax.specs.Grammar.{Tree, HasShape}
use Rattle.soqe_syntax.specs.Pieces.{piece_of}
use Rattle.soqe_parse.specs.Machine.{Want, Dead, run, parse}
use Rattle.soqe_parse.specs.Formulas.{HasForm, IsFormViable, IsFormFaultIn, at_token, at_byte, at_end, OneForm, FaultOrForm, OneFormPlace}
use Rattle.soqe_parse.proofs.FormulaComplete.{one_shape, parse-spelled, dead_is_not_viable, alive}
use Rattle.soqe_parse.proofs.FormulaSound.{parse-sound}
use Rattle.soqe_parse.proofs.FormulaViable.{living-begun}
use Rattle.soqe_parse.proofs.Places.{front, same-start}

-- ---- what the machine says

shape-parsed : (ps : List Piece) (t : Tree Span) → HasShape ps t → parse ps ≡ Some t
shape-parsed ps t h = ap parse h.spelled ∙ parse-spelled t h.levelled

living-viable : (ps : List Piece) → (run (Want []) ps ≡ Dead → ⊥) → IsFormViable ps
living-viable ps living =
    let b = living-begun ps (alive (run (Want []) ps) living) in
    record { more = b.more; tree = b.tree; shape = b.shape }

dead-not-viable : (ps : List Piece) → run (Want []) ps ≡ Dead → IsFormViable ps → ⊥
dead-not-viable ps e v = dead_is_not_viable ps v.more v.tree e v.shape

-- ---- fronts

-- what begins a formula begins with the beginning of one
pub viable-front : (ps us : List Piece) → IsFormViable (ps ++ us) → IsFormViable ps
viable-front ps us v = record { more = us ++ v.more; tree = v.tree; shape = record { levelled = v.shape.levelled; spelled = sym (append_assoc ps us v.more) ∙ v.shape.spelled } }

-- a formula begins with its own pieces
pub whole-viable : (ps : List Piece) (p : Tree Span) → HasShape ps p → IsFormViable ps
whole-viable ps p h = record { more = []; tree = p; shape = record { levelled = h.levelled; spelled = append-nil ps ∙ h.spelled } }

pub take-viable : (bytes : List ℕ) (n : ℕ) (ts : List Token) → IsFormViable (map (piece_of bytes) ts) → IsFormViable (front bytes n ts)
take-viable bytes n ts v =
    viable-front (front bytes n ts) (map (piece_of bytes) (drop n ts))
    (subst IsFormViable (ap (map (piece_of bytes)) (sym (take-append-drop n ts)) ∙ map-append (piece_of bytes) (take n ts) (drop n ts)) v)

pub front-viable : (bytes : List ℕ) (m n : ℕ) (ts : List Token) → m ≤ n → IsFormViable (front bytes n ts) → IsFormViable (front bytes m ts)
front-viable bytes m n ts le v = subst IsFormViable (ap (map (piece_of bytes)) (take-take m n ts le)) (take-viable bytes m (take n ts) v)

-- ---- a formula or a fault

pub one_form : OneForm
one_form bytes p q h k =
    let same = (one_reading k.lexed h.lexed).0 in
    one_shape (map (piece_of bytes) h.tokens) p q h.shape (subst (λ (ts : List Token). HasShape (map (piece_of bytes) ts) q) same k.shape)

fault-none : (bytes : List ℕ) (ts : List Token) (stop : Option ℕ) (at : ℕ) (p : Tree Span) → stop ≡ None → HasShape (map (piece_of bytes) ts) p → IsFormFaultIn bytes ts stop at → ⊥
fault-none bytes ts stop at p e h (at_token n token get start viable dead) = dead (take-viable bytes (n + 1) ts (whole-viable (map (piece_of bytes) ts) p h))
fault-none bytes ts stop at p e h (at_byte is viable) = absurd cc
fault-none bytes ts stop at p e h (at_end is place viable none) = none p h

pub fault_or_form : FaultOrForm
fault_or_form bytes at p f h =
    let same = one_reading h.lexed f.lexed in
    fault-none bytes f.tokens f.stop at p (sym same.1) (subst (λ (ts : List Token). HasShape (map (piece_of bytes) ts) p) same.0 h.shape) f.fault

-- ---- one place

-- the first token after which nothing goes on is one
one-token : (bytes : List ℕ) (m n : ℕ) (ts : List Token)
    → IsFormViable (front bytes m ts) → (IsFormViable (front bytes (m + 1) ts) → ⊥) → IsFormViable (front bytes n ts) → (IsFormViable (front bytes (n + 1) ts) → ⊥) → m ≡ n
one-token bytes m n ts v dead w dead' =
    elim (cases_order m n) [
      | inl e ↦ e
      | inr o ↦ elim o [
        | inl lt ↦ absurd (dead (front-viable bytes (m + 1) n ts (omega arith) w))
        | inr gt ↦ absurd (dead' (front-viable bytes (n + 1) m ts (omega arith) v))
      ]
    ]

one-fault : {bytes : List ℕ} {ts : List Token} {stop : Option ℕ} {at other : ℕ} → IsFormFaultIn bytes ts stop at → IsFormFaultIn bytes ts stop other → at ≡ other
one-fault {bytes} {ts} (at_token n t get start v dead) (at_token m u get' start' w dead') =
    sym start ∙ same-start ts n m t u (one-token bytes n m ts v dead w dead') get get' ∙ start'
one-fault {bytes} {ts} (at_token n t get start v dead) (at_byte is w) = absurd (dead (take-viable bytes (n + 1) ts w))
one-fault {bytes} {ts} (at_token n t get start v dead) (at_end is place w none) = absurd (dead (take-viable bytes (n + 1) ts w))
one-fault {bytes} {ts} (at_byte is w) (at_token n t get start v dead) = absurd (dead (take-viable bytes (n + 1) ts w))
one-fault (at_byte is w) (at_byte is' w') = cc
one-fault (at_byte is w) (at_end is' place w' none) = absurd cc
one-fault {bytes} {ts} (at_end is place w none) (at_token n t get start v dead) = absurd (dead (take-viable bytes (n + 1) ts w))
one-fault (at_end is place w none) (at_byte is' w') = absurd cc
one-fault (at_end is place w none) (at_end is' place' w' none') = place ∙ sym place'

pub one_form_place : OneFormPlace
one_form_place bytes at other f g =
    let same = one_reading g.lexed f.lexed in
    let e : IsFormFaultIn bytes f.tokens g.stop other = subst (λ (ts : List Token). IsFormFaultIn bytes ts g.stop other) same.0 g.fault in
    one-fault f.fault (subst (λ (stop : Option ℕ). IsFormFaultIn bytes f.tokens stop other) same.1 e)

-- ---- the place that the machine finds

-- the first token that leads to the dead state
pub dead-token : (bytes : List ℕ) (ts : List Token) (stop : Option ℕ) (n : ℕ) (token : Token) → slice_get ts n ≡ Some token
    → (run (Want []) (front bytes n ts) ≡ Dead → ⊥) → run (Want []) (front bytes (n + 1) ts) ≡ Dead → IsFormFaultIn bytes ts stop token.start
dead-token bytes ts stop n token get living dead =
    at_token n token get refl (living-viable (front bytes n ts) living) (dead-not-viable (front bytes (n + 1) ts) dead)

-- a byte that begins no token, behind tokens that go on
pub stopped-byte : (bytes : List ℕ) (ts : List Token) (at : ℕ) → (run (Want []) (map (piece_of bytes) ts) ≡ Dead → ⊥) → IsFormFaultIn bytes ts (Some at) at
stopped-byte bytes ts at living = at_byte refl (living-viable (map (piece_of bytes) ts) living)

-- an end behind tokens that go on, but aren't a formula yet
pub early-end : (bytes : List ℕ) (ts : List Token) → (run (Want []) (map (piece_of bytes) ts) ≡ Dead → ⊥) → parse (map (piece_of bytes) ts) ≡ None
    → IsFormFaultIn bytes ts None (length bytes)
early-end bytes ts living none =
    at_end refl refl (living-viable (map (piece_of bytes) ts) living)
    (λ p h. let e = shape-parsed (map (piece_of bytes) ts) p h in absurd cc)

-- the formula that the machine answers
pub form-found : (bytes : List ℕ) (ts : List Token) (p : Tree Span) → Lexed 0 bytes ts None → parse (map (piece_of bytes) ts) ≡ Some p → HasForm bytes p
form-found bytes ts p l e = record { tokens = ts; lexed = l; shape = parse-sound (map (piece_of bytes) ts) p e }
