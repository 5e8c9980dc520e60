-- A step that takes the formula: what the row gave, or the formula itself where no row applies.
use Rattle.std.specs.Prelude.{Bool, true, false, Option, Some, None}
use Rattle.soqe_form.specs.declared.form.Form.{Form, Not', Imp', end_of-Form as end, more_of-Form as one}
use Rattle.soqe_simp.specs.declared.rewriting.Rewritten.{Rewritten}
use Rattle.soqe_simp.specs.declared.stepping.Stepped.{Stepped}
use Rattle.soqe_simp.specs.declared.stepping.Stepped.TheVariants.{Settled, Made}
use Rattle.soqe_simp.specs.Step.{step}

-- by what is said of the row
abbrev pub stepped_by : Option Rewritten → Form → Stepped
stepped_by None f = Settled f
stepped_by (Some r) f = Made r

-- by the first row that applies at the root
abbrev pub stepped : Form → Stepped
stepped f = stepped_by (step f) f

-- the formula is ~A for some A
abbrev pub is_negation : Form → Bool
is_negation (Not' _ (one f end)) = true
is_negation _ = false

-- the formula is A -> B for some A and B
abbrev pub is_implication : Form → Bool
is_implication (Imp' _ (one f end) _ (one g end)) = true
is_implication _ = false
