-- Quantifiers of variables in front of a formula.
use Rattle.std.specs.Prelude.{cond, List, [], ◌∷◌}
use Rattle.soqe_form.specs.declared.form.Form.{Form, All, Ex}
use Rattle.soqe_form.specs.declared.quantifiers.Quantifier.{Quantifier}

-- one of them
abbrev pub quantified : Quantifier → Form → Form
quantified q f = cond q.universal (All q.variable f) (Ex q.variable f)

-- several, the outermost first
abbrev pub quantify : List Quantifier → Form → Form
quantify [] f = f
quantify (q ∷ qs) f = quantified q (quantify qs f)
