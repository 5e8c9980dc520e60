-- How heavy a formula is. Each row makes it lighter.
use Rattle.std.specs.Prelude.{ℕ, ◌+◌}
use Rattle.soqe_form.specs.declared.form.Form.{Form, True, False, Equal, Atom, Not', And', Or', Imp', Iff', All', Ex', All2', Ex2', end_of-Form as end, more_of-Form as one}

-- truth values and atoms weigh 1, equations 2; on top of their parts ~, -> and <-> weigh 2, every other node 1
abbrev pub weight : Form → ℕ
weight True = 1
weight False = 1
weight (Equal s t) = 2
weight (Atom p ts) = 1
weight (Not' _ (one f end)) = 2 + weight f
weight (And' _ (one f end) _ (one g end)) = 1 + (weight f + weight g)
weight (Or' _ (one f end) _ (one g end)) = 1 + (weight f + weight g)
weight (Imp' _ (one f end) _ (one g end)) = 2 + (weight f + weight g)
weight (Iff' _ (one f end) _ (one g end)) = 2 + (weight f + weight g)
weight (All' x _ (one f end)) = 1 + weight f
weight (Ex' x _ (one f end)) = 1 + weight f
weight (All2' p _ (one f end)) = 1 + weight f
weight (Ex2' p _ (one f end)) = 1 + weight f
