-- Formulas with a quantifier of a variable at the root.
use Rattle.std.specs.Prelude.{Bool, true, false}
use Rattle.soqe_form.specs.declared.form.Form.{Form, All', Ex', end_of-Form as end, more_of-Form as one}

-- a quantifier of a variable is at the root
abbrev pub is_quantified : Form → Bool
is_quantified (All' x _ (one f end)) = true
is_quantified (Ex' x _ (one f end)) = true
is_quantified _ = false
