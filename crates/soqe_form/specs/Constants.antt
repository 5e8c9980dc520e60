-- The formulas of the truth values.
use Rattle.std.specs.Prelude.{Bool, cond}
use Rattle.soqe_form.specs.declared.form.Form.{Form, True, False}

-- the formula of a truth value
abbrev pub constant : Bool → Form
constant v = cond v True False
