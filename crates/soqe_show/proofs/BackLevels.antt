-- No operand of a printed formula is looser than its place.
use Rattle.std.proofs.Common.{◌≡◌, ℕ, ◌≤◌, Bool, true, false, cond, nat_lt, List, refl, arith}
use Rattle.soqe_syntax.specs.Grammar.{Tree, Constant, Atom, Equation, Not, Bind, Bind2, Binary, Paren, level, left, right, IsLevelled}
use Rattle.soqe_syntax.specs.declared.piece.Operator.TheVariants as operator
use Rattle.soqe_signature.specs.Declarations.{Declaration}
use Rattle.soqe_form.specs.declared.form.Form.{Form, True, False, Equal, Atom as Atomic, Not', And', Or', Imp', Iff', All', Ex', All2', Ex2', end_of-Form as end, more_of-Form as one}
use Rattle.soqe_show.specs.Printed.{Text}
use Rattle.soqe_show.specs.Dress.{guard, negated, dress}

-- an operand that stands in parentheses where it is too loose is tight enough
levelled_guard : (k : ℕ) (t : Tree Text) → k ≤ 4 → IsLevelled t → (k ≤ level (guard k t)) × IsLevelled (guard k t)
levelled_guard k t few h = by (nat_lt (level t) k) refl
  where
    by : (b : Bool) → nat_lt (level t) k ≡ b → (k ≤ level (cond b (Paren t) t)) × IsLevelled (cond b (Paren t) t)
    by true e = (few, h)
    by false e = (grind (arith, e), h)

levelled_not : (t : Tree Text) → IsLevelled t → IsLevelled (Not (guard 4 t))
levelled_not t h = levelled_guard 4 t (omega arith) h

levelled_negated : (t : Tree Text) → IsLevelled t → IsLevelled (negated t)
levelled_negated (Equation false sign l r) h = h
levelled_negated (Equation true sign l r) h = levelled_not (Equation true sign l r) h
levelled_negated (Constant b) h = levelled_not (Constant b) h
levelled_negated (Atom t) h = levelled_not (Atom t) h
levelled_negated (Not t) h = levelled_not (Not t) h
levelled_negated (Bind q x s t) h = levelled_not (Bind q x s t) h
levelled_negated (Bind2 q x ss t) h = levelled_not (Bind2 q x ss t) h
levelled_negated (Binary op l r) h = levelled_not (Binary op l r) h
levelled_negated (Paren t) h = levelled_not (Paren t) h

-- the tree of a formula
pub levelled : (ds : List Declaration) (f : Form) → IsLevelled (dress ds f)
levelled ds True = tt
levelled ds False = tt
levelled ds (Equal s t) = tt
levelled ds (Atomic p ts) = tt
levelled ds (Not' _ (one f end)) = levelled_negated (dress ds f) (levelled ds f)
levelled ds (And' _ (one f end) _ (one g end)) =
    let a = levelled_guard (left operator.And) (dress ds f) (omega arith) (levelled ds f) in
    let b = levelled_guard (right operator.And) (dress ds g) (omega arith) (levelled ds g) in
    (a.0, a.1, b.0, b.1)
levelled ds (Or' _ (one f end) _ (one g end)) =
    let a = levelled_guard (left operator.Or) (dress ds f) (omega arith) (levelled ds f) in
    let b = levelled_guard (right operator.Or) (dress ds g) (omega arith) (levelled ds g) in
    (a.0, a.1, b.0, b.1)
levelled ds (Imp' _ (one f end) _ (one g end)) =
    let a = levelled_guard (left operator.Imp) (dress ds f) (omega arith) (levelled ds f) in
    let b = levelled_guard (right operator.Imp) (dress ds g) (omega arith) (levelled ds g) in
    (a.0, a.1, b.0, b.1)
levelled ds (Iff' _ (one f end) _ (one g end)) =
    let a = levelled_guard (left operator.Iff) (dress ds f) (omega arith) (levelled ds f) in
    let b = levelled_guard (right operator.Iff) (dress ds g) (omega arith) (levelled ds g) in
    (a.0, a.1, b.0, b.1)
levelled ds (All' x _ (one f end)) = levelled_guard 4 (dress ds f) (omega arith) (levelled ds f)
levelled ds (Ex' x _ (one f end)) = levelled_guard 4 (dress ds f) (omega arith) (levelled ds f)
levelled ds (All2' p _ (one f end)) = levelled_guard 4 (dress ds f) (omega arith) (levelled ds f)
levelled ds (Ex2' p _ (one f end)) = levelled_guard 4 (dress ds f) (omega arith) (levelled ds f)
