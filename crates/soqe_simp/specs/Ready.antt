-- What is known of the formula that a row gives, where the children of the formula before it were simple.
use Rattle.std.specs.Prelude.{ℕ, eqb, ◌≡◌, Bool, true, false, ◌||◌}
use Rattle.soqe_form.specs.declared.form.Form.{Form, True, False, Equal, Atom, Not', And', Or', Imp', Iff', All', Ex', All2', Ex2', end_of-Form as end, more_of-Form as one}
use Rattle.soqe_simp.specs.Normal.{is_simple}

-- no row applies in it
abbrev pub IsSimple : Form → Type 0
IsSimple f = is_simple f ≡ true

-- it holds of each child
abbrev pub Children : (Form → Type 0) → Form → Type 0
Children P True = Unit {0}
Children P False = Unit {0}
Children P (Equal s t) = Unit {0}
Children P (Atom p ts) = Unit {0}
Children P (Not' _ (one f end)) = P f
Children P (And' _ (one f end) _ (one g end)) = P f × P g
Children P (Or' _ (one f end) _ (one g end)) = P f × P g
Children P (Imp' _ (one f end) _ (one g end)) = P f × P g
Children P (Iff' _ (one f end) _ (one g end)) = P f × P g
Children P (All' x _ (one f end)) = P f
Children P (Ex' x _ (one f end)) = P f
Children P (All2' p _ (one f end)) = P f
Children P (Ex2' p _ (one f end)) = P f

-- these rows make a new node at the root alone
abbrev pub is_again : ℕ → Bool
is_again n = eqb n 19 || (eqb n 20 || (eqb n 24 || (eqb n 30 || eqb n 31)))

-- these make two new nodes, one above the other
abbrev pub is_below : ℕ → Bool
is_below n = eqb n 26 || eqb n 27

-- these make a new formula
abbrev pub is_anew : ℕ → Bool
is_anew n = eqb n 35 || (eqb n 36 || eqb n 37)

-- ~A or A -> D, where A has simple children and D is simple
abbrev pub IsBelow : Form → Type 0
IsBelow (Not' _ (one f end)) = Children IsSimple f
IsBelow (Imp' _ (one f end) _ (one g end)) = Children IsSimple f × IsSimple g
IsBelow _ = ⊥

-- what is known of a formula, by the number of the row that gave it
pub record Ready (n : ℕ) (g : Form) : Type 0 where
  pub again : is_again n ≡ true → Children IsSimple g
  pub below : is_below n ≡ true → IsBelow g
  pub ends : is_again n ≡ false → is_below n ≡ false → is_anew n ≡ false → IsSimple g
