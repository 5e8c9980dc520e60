-- Guards of a predicate at a sign: their conditions, and what is left of them. The sign is true for positive.
use Rattle.std.specs.Prelude.{◌≡◌, Bool, true, false, ◌||◌, List, [], ◌∷◌}
use Rattle.soqe_term.specs.declared.term.Var.{Var}
use Rattle.soqe_term.specs.declared.term.Term.{Var as var}
use Rattle.soqe_term.specs.declared.term.Terms.{Terms, Nil, Cons', end_of-Term as end-t, more_of-Term as one-t, end_of-Terms as ends-t, more_of-Terms as ones-t}
use Rattle.soqe_form.specs.declared.form.Pred.{Pred}
use Rattle.soqe_form.specs.declared.form.Form.{Form, True, False, Equal, Atom, Not, And, Or, All, Ex}
use Rattle.soqe_form.specs.FreePreds.{has_free}
use Rattle.soqe_norm.specs.Nnf.{nnf}

-- the literal of the sign
abbrev pub literal : Bool → Pred → Terms → Form
literal true q ts = Atom q ts
literal false q ts = Not (Atom q ts)

-- further parameters equal their arguments, after f; false where one list is longer
abbrev pub equations_after : Form → List Var → Terms → Form
equations_after f [] Nil = f
equations_after f [] (Cons' _ (one-t t end-t) _ (ones-t ts ends-t)) = False
equations_after f (x ∷ xs) Nil = False
equations_after f (x ∷ xs) (Cons' _ (one-t t end-t) _ (ones-t ts ends-t)) = equations_after (And f (Equal (var x) t)) xs ts

-- each parameter equals its argument, folded by `&` to the left; false where one list is longer
abbrev pub equations : List Var → Terms → Form
equations [] Nil = True
equations [] (Cons' _ (one-t t end-t) _ (ones-t ts ends-t)) = False
equations (x ∷ xs) Nil = False
equations (x ∷ xs) (Cons' _ (one-t t end-t) _ (ones-t ts ends-t)) = equations_after (Equal (var x) t) xs ts

-- a formula is a guard of the predicate q at the sign s with the parameters xs, with a condition and a rest
pub data IsGuard (s : Bool) (q : Pred) (xs : List Var) : Form → Form → Form → Type 0 where
  -- a formula without the predicate
  lacking : {f : Form} → has_free q f ≡ false → IsGuard s q xs f False f
  -- a literal of the sign
  literally : (ts : Terms) → IsGuard s q xs (literal s q ts) (equations xs ts) True
  -- a conjunction of guards, one of them with the predicate
  conjoined : {f g c d r t : Form} → (has_free q f || has_free q g) ≡ true → IsGuard s q xs f c r → IsGuard s q xs g d t
      → IsGuard s q xs (And f g) (Or c d) (And r t)
  -- a guard with the predicate, for all elements
  quantified : {x : Var} {f c r : Form} → has_free q f ≡ true → IsGuard s q xs f c r → IsGuard s q xs (All x f) (Ex x c) (All x r)
  -- a disjunction with the predicate on the right alone
  on_right : (f : Form) {g d t : Form} → has_free q f ≡ false → has_free q g ≡ true → IsGuard s q xs g d t
      → IsGuard s q xs (Or f g) (And (nnf true f) d) (Or f t)
  -- a disjunction with the predicate on the left alone
  on_left : {f : Form} (g : Form) {c r : Form} → has_free q f ≡ true → has_free q g ≡ false → IsGuard s q xs f c r
      → IsGuard s q xs (Or f g) (And (nnf true g) c) (Or r g)
