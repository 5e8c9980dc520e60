-- Formulas joined one after another, while none or some were.
use Rattle.std.specs.Prelude.{List, [], ◌∷◌, Option, Some, None}
use Rattle.soqe_form.specs.declared.form.Form.{Form, And, Or}

-- one more formula by `|`, or the first
abbrev pub with_or : Option Form → Form → Form
with_or None f = f
with_or (Some made) f = Or made f

-- further formulas by `|`
abbrev pub or_onto : Option Form → List Form → Option Form
or_onto made [] = made
or_onto made (f ∷ fs) = or_onto (Some (with_or made f)) fs

-- one more formula by `&`, or the first
abbrev pub with_and : Option Form → Form → Form
with_and None f = f
with_and (Some made) f = And made f

-- further formulas by `&`
abbrev pub and_onto : Option Form → List Form → Option Form
and_onto made [] = made
and_onto made (f ∷ fs) = and_onto (Some (with_and made f)) fs
