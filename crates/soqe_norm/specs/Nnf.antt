-- Negation normal form.
use Rattle.std.specs.Prelude.{Bool, true, false, cond, not, ◌&&◌}
use Rattle.soqe_form.specs.declared.form.Form.{Form, True, False, Equal, Atom, Not, Not', And, And', Or, Or', Imp', Iff', All, All', Ex, Ex', All2, All2', Ex2, Ex2', end_of-Form as end, more_of-Form as one}

-- the normal form of a formula, or of its negation where the first argument is true
abbrev pub nnf : Bool → Form → Form
nnf false True = True
nnf true True = False
nnf false False = False
nnf true False = True
nnf false (Equal s t) = Equal s t
nnf true (Equal s t) = Not (Equal s t)
nnf false (Atom p ts) = Atom p ts
nnf true (Atom p ts) = Not (Atom p ts)
nnf false (Not' _ (one f end)) = nnf true f
nnf true (Not' _ (one f end)) = nnf false f
nnf false (And' _ (one f end) _ (one g end)) = And (nnf false f) (nnf false g)
nnf true (And' _ (one f end) _ (one g end)) = Or (nnf true f) (nnf true g)
nnf false (Or' _ (one f end) _ (one g end)) = Or (nnf false f) (nnf false g)
nnf true (Or' _ (one f end) _ (one g end)) = And (nnf true f) (nnf true g)
nnf false (Imp' _ (one f end) _ (one g end)) = Or (nnf true f) (nnf false g)
nnf true (Imp' _ (one f end) _ (one g end)) = And (nnf false f) (nnf true g)
nnf false (Iff' _ (one f end) _ (one g end)) = And (Or (nnf true f) (nnf false g)) (Or (nnf false f) (nnf true g))
nnf true (Iff' _ (one f end) _ (one g end)) = Or (And (nnf false f) (nnf true g)) (And (nnf true f) (nnf false g))
nnf false (All' x _ (one f end)) = All x (nnf false f)
nnf true (All' x _ (one f end)) = Ex x (nnf true f)
nnf false (Ex' x _ (one f end)) = Ex x (nnf false f)
nnf true (Ex' x _ (one f end)) = All x (nnf true f)
nnf false (All2' p _ (one f end)) = All2 p (nnf false f)
nnf true (All2' p _ (one f end)) = Ex2 p (nnf true f)
nnf false (Ex2' p _ (one f end)) = Ex2 p (nnf false f)
nnf true (Ex2' p _ (one f end)) = All2 p (nnf true f)

-- an atom or an equation
abbrev pub is_atomic : Form → Bool
is_atomic (Equal s t) = true
is_atomic (Atom p ts) = true
is_atomic _ = false

-- only atoms and equations are negated, and there is no implication and no equivalence
abbrev pub is_nnf : Form → Bool
is_nnf True = true
is_nnf False = true
is_nnf (Equal s t) = true
is_nnf (Atom p ts) = true
is_nnf (Not' _ (one f end)) = is_atomic f
is_nnf (And' _ (one f end) _ (one g end)) = is_nnf f && is_nnf g
is_nnf (Or' _ (one f end) _ (one g end)) = is_nnf f && is_nnf g
is_nnf (Imp' _ (one f end) _ (one g end)) = false
is_nnf (Iff' _ (one f end) _ (one g end)) = false
is_nnf (All' x _ (one f end)) = is_nnf f
is_nnf (Ex' x _ (one f end)) = is_nnf f
is_nnf (All2' p _ (one f end)) = is_nnf f
is_nnf (Ex2' p _ (one f end)) = is_nnf f

-- a truth value, or the other one where the first argument is true
abbrev pub signed : Bool → Bool → Bool
signed negated value = cond negated (not value) value
