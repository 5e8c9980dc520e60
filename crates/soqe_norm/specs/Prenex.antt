-- A formula whose quantifiers of variables stand in front.
use Rattle.std.specs.Prelude.{◌≡◌, Bool, true, false, ◌&&◌, List, [], ◌∷◌, ◌++◌}
use Rattle.soqe_form.specs.declared.form.Form.{Form, True, False, Equal, Atom, Not, Not', And, And', Or, Or', Imp, Imp', Iff, Iff', All', Ex', All2, All2', Ex2, Ex2', end_of-Form as end, more_of-Form as one}
use Rattle.soqe_form.specs.declared.quantifiers.Quantifier.{Quantifier}
use Rattle.soqe_form.specs.Quantifiers.{quantify}
use Rattle.soqe_norm.specs.Apart.{IsApart}

-- the quantifiers that no negation, `->`, `<->` or quantifier of a predicate stands above, from left to right, an outer one
-- before the inner ones: in a normal form without quantifiers of predicates, all of them
abbrev pub prefix : Form → List Quantifier
prefix True = []
prefix False = []
prefix (Equal s t) = []
prefix (Atom p ts) = []
prefix (Not' _ (one f end)) = []
prefix (And' _ (one f end) _ (one g end)) = prefix f ++ prefix g
prefix (Or' _ (one f end) _ (one g end)) = prefix f ++ prefix g
prefix (Imp' _ (one f end) _ (one g end)) = []
prefix (Iff' _ (one f end) _ (one g end)) = []
prefix (All' x _ (one f end)) = record { universal = true; variable = x } ∷ prefix f
prefix (Ex' x _ (one f end)) = record { universal = false; variable = x } ∷ prefix f
prefix (All2' p _ (one f end)) = []
prefix (Ex2' p _ (one f end)) = []

-- the formula without them
abbrev pub matrix : Form → Form
matrix True = True
matrix False = False
matrix (Equal s t) = Equal s t
matrix (Atom p ts) = Atom p ts
matrix (Not' _ (one f end)) = Not f
matrix (And' _ (one f end) _ (one g end)) = And (matrix f) (matrix g)
matrix (Or' _ (one f end) _ (one g end)) = Or (matrix f) (matrix g)
matrix (Imp' _ (one f end) _ (one g end)) = Imp f g
matrix (Iff' _ (one f end) _ (one g end)) = Iff f g
matrix (All' x _ (one f end)) = matrix f
matrix (Ex' x _ (one f end)) = matrix f
matrix (All2' p _ (one f end)) = All2 p f
matrix (Ex2' p _ (one f end)) = Ex2 p f

-- the quantifiers in front of the rest
abbrev pub pulled : Form → Form
pulled f = quantify (prefix f) (matrix f)

-- no quantifier stands in the formula
abbrev pub is_open : Form → Bool
is_open True = true
is_open False = true
is_open (Equal s t) = true
is_open (Atom p ts) = true
is_open (Not' _ (one f end)) = is_open f
is_open (And' _ (one f end) _ (one g end)) = is_open f && is_open g
is_open (Or' _ (one f end) _ (one g end)) = is_open f && is_open g
is_open (Imp' _ (one f end) _ (one g end)) = is_open f && is_open g
is_open (Iff' _ (one f end) _ (one g end)) = is_open f && is_open g
is_open (All' x _ (one f end)) = false
is_open (Ex' x _ (one f end)) = false
is_open (All2' p _ (one f end)) = false
is_open (Ex2' p _ (one f end)) = false

-- quantifiers of variables stand in front, and none elsewhere
abbrev pub is_prenex : Form → Bool
is_prenex True = true
is_prenex False = true
is_prenex (Equal s t) = true
is_prenex (Atom p ts) = true
is_prenex (Not' _ (one f end)) = is_open f
is_prenex (And' _ (one f end) _ (one g end)) = is_open f && is_open g
is_prenex (Or' _ (one f end) _ (one g end)) = is_open f && is_open g
is_prenex (Imp' _ (one f end) _ (one g end)) = is_open f && is_open g
is_prenex (Iff' _ (one f end) _ (one g end)) = is_open f && is_open g
is_prenex (All' x _ (one f end)) = is_prenex f
is_prenex (Ex' x _ (one f end)) = is_prenex f
is_prenex (All2' p _ (one f end)) = false
is_prenex (Ex2' p _ (one f end)) = false

-- the bound variables made distinct, and then the quantifiers in front
pub record IsPrenexed (f made : Form) : Type 0 where
  pub apart : Form
  pub distinct : IsApart [] f apart
  pub is : made ≡ pulled apart
