-- How large a formula is.
use Rattle.std.specs.Prelude.{ℕ, suc, ◌+◌}
use Rattle.soqe_form.specs.declared.form.Form.{Form, True, False, Equal, Atom, Not', And', Or', Imp', Iff', All', Ex', All2', Ex2', end_of-Form as end, more_of-Form as one}

-- how many nodes a formula has; its terms are not counted
abbrev pub nodes : Form → ℕ
nodes True = 1
nodes False = 1
nodes (Equal s t) = 1
nodes (Atom p ts) = 1
nodes (Not' _ (one f end)) = suc (nodes f)
nodes (And' _ (one f end) _ (one g end)) = suc (nodes f + nodes g)
nodes (Or' _ (one f end) _ (one g end)) = suc (nodes f + nodes g)
nodes (Imp' _ (one f end) _ (one g end)) = suc (nodes f + nodes g)
nodes (Iff' _ (one f end) _ (one g end)) = suc (nodes f + nodes g)
nodes (All' x _ (one f end)) = suc (nodes f)
nodes (Ex' x _ (one f end)) = suc (nodes f)
nodes (All2' p _ (one f end)) = suc (nodes f)
nodes (Ex2' p _ (one f end)) = suc (nodes f)
