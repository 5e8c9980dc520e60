-- A formula made simple: its children first, from left to right, then what the first row gives at its root.
use Rattle.std.specs.Prelude.{ℕ, zero, suc, Option, Some, None}
use Rattle.soqe_form.specs.declared.form.Form.{Form, True, False, Equal, Atom, Not, Not', And, And', Or, Or', Imp, Imp', Iff, Iff', All, All', Ex, Ex', All2, All2', Ex2, Ex2', end_of-Form as end, more_of-Form as one}
use Rattle.soqe_simp.specs.declared.rewriting.Rewritten.{Rewritten}
use Rattle.soqe_simp.specs.Step.{step}
use Rattle.soqe_simp.specs.Weight.{weight}

-- the formula with s done to each child
abbrev pub on_children : (Form → Form) → Form → Form
on_children s True = True
on_children s False = False
on_children s (Equal t u) = Equal t u
on_children s (Atom p ts) = Atom p ts
on_children s (Not' _ (one f end)) = Not (s f)
on_children s (And' _ (one f end) _ (one g end)) = And (s f) (s g)
on_children s (Or' _ (one f end) _ (one g end)) = Or (s f) (s g)
on_children s (Imp' _ (one f end) _ (one g end)) = Imp (s f) (s g)
on_children s (Iff' _ (one f end) _ (one g end)) = Iff (s f) (s g)
on_children s (All' x _ (one f end)) = All x (s f)
on_children s (Ex' x _ (one f end)) = Ex x (s f)
on_children s (All2' p _ (one f end)) = All2 p (s f)
on_children s (Ex2' p _ (one f end)) = Ex2 p (s f)

-- s done to what a row gave; f where no row applied
abbrev pub then_on : (Form → Form) → Option Rewritten → Form → Form
then_on s None f = f
then_on s (Some r) f = s r.form

-- at the root, once the children are simple
abbrev pub root_simplified : (Form → Form) → Form → Form
root_simplified s f = then_on s (step f) f

-- a formula made simple that weighs at most k
abbrev pub simplified : ℕ → Form → Form
simplified zero f = f
simplified (suc k) f = root_simplified (simplified k) (on_children (simplified k) f)

-- the formula made simple
abbrev pub simplify : Form → Form
simplify f = simplified (weight f) f
