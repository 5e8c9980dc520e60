-- What stands behind all binders `all y.` in front of a formula.
use Rattle.std.specs.Prelude.{Bool, true, false}
use Rattle.soqe_form.specs.declared.form.Form.{Form, True, False, Equal, Atom, Not', And', Or', Imp', Iff', All', Ex', All2', Ex2', end_of-Form as end, more_of-Form as one}

-- ~C stands there
abbrev pub ends_in_negation : Form → Bool
ends_in_negation True = false
ends_in_negation False = false
ends_in_negation (Equal s t) = false
ends_in_negation (Atom p ts) = false
ends_in_negation (Not' _ (one f end)) = true
ends_in_negation (And' _ (one f end) _ (one g end)) = false
ends_in_negation (Or' _ (one f end) _ (one g end)) = false
ends_in_negation (Imp' _ (one f end) _ (one g end)) = false
ends_in_negation (Iff' _ (one f end) _ (one g end)) = false
ends_in_negation (All' y _ (one f end)) = ends_in_negation f
ends_in_negation (Ex' y _ (one f end)) = false
ends_in_negation (All2' p _ (one f end)) = false
ends_in_negation (Ex2' p _ (one f end)) = false

-- C -> D stands there
abbrev pub ends_in_implication : Form → Bool
ends_in_implication True = false
ends_in_implication False = false
ends_in_implication (Equal s t) = false
ends_in_implication (Atom p ts) = false
ends_in_implication (Not' _ (one f end)) = false
ends_in_implication (And' _ (one f end) _ (one g end)) = false
ends_in_implication (Or' _ (one f end) _ (one g end)) = false
ends_in_implication (Imp' _ (one f end) _ (one g end)) = true
ends_in_implication (Iff' _ (one f end) _ (one g end)) = false
ends_in_implication (All' y _ (one f end)) = ends_in_implication f
ends_in_implication (Ex' y _ (one f end)) = false
ends_in_implication (All2' p _ (one f end)) = false
ends_in_implication (Ex2' p _ (one f end)) = false
