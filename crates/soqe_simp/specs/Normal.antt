-- Simple formulas.
use Rattle.std.specs.Prelude.{Bool, not, ◌&&◌, is_some}
use Rattle.soqe_form.specs.declared.form.Form.{Form, True, False, Equal, Atom, Not, Not', And, And', Or, Or', Imp, Imp', Iff, Iff', All, All', Ex, Ex', All2, All2', Ex2, Ex2', end_of-Form as end, more_of-Form as one}
use Rattle.soqe_simp.specs.Step.{step}

-- no row applies at the root
abbrev pub is_settled : Form → Bool
is_settled f = not (is_some (step f))

-- no row applies at any place
abbrev pub is_simple : Form → Bool
is_simple True = is_settled True
is_simple False = is_settled False
is_simple (Equal s t) = is_settled (Equal s t)
is_simple (Atom p ts) = is_settled (Atom p ts)
is_simple (Not' _ (one f end)) = is_settled (Not f) && is_simple f
is_simple (And' _ (one f end) _ (one g end)) = is_settled (And f g) && (is_simple f && is_simple g)
is_simple (Or' _ (one f end) _ (one g end)) = is_settled (Or f g) && (is_simple f && is_simple g)
is_simple (Imp' _ (one f end) _ (one g end)) = is_settled (Imp f g) && (is_simple f && is_simple g)
is_simple (Iff' _ (one f end) _ (one g end)) = is_settled (Iff f g) && (is_simple f && is_simple g)
is_simple (All' x _ (one f end)) = is_settled (All x f) && is_simple f
is_simple (Ex' x _ (one f end)) = is_settled (Ex x f) && is_simple f
is_simple (All2' p _ (one f end)) = is_settled (All2 p f) && is_simple f
is_simple (Ex2' p _ (one f end)) = is_settled (Ex2 p f) && is_simple f
