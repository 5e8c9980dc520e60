-- Lists of formulas folded to the left, and variables in front of a formula.
use Rattle.std.specs.Prelude.{List, [], ◌∷◌}
use Rattle.soqe_term.specs.declared.term.Var.{Var}
use Rattle.soqe_form.specs.declared.form.Form.{Form, True, False, And, Or, Ex}

-- further formulas by `|` after f
abbrev pub or_after : Form → List Form → Form
or_after f [] = f
or_after f (g ∷ gs) = or_after (Or f g) gs

-- some formula of a list, false of none
abbrev pub any_of : List Form → Form
any_of [] = False
any_of (f ∷ fs) = or_after f fs

-- further formulas by `&` after f
abbrev pub and_after : Form → List Form → Form
and_after f [] = f
and_after f (g ∷ gs) = and_after (And f g) gs

-- all formulas of a list, true of none
abbrev pub all_of : List Form → Form
all_of [] = True
all_of (f ∷ fs) = and_after f fs

-- existential variables in front of a formula
abbrev pub exists_in : List Var → Form → Form
exists_in [] f = f
exists_in (x ∷ xs) f = Ex x (exists_in xs f)

-- the formula of a case: its variables in front of its conjuncts
abbrev pub case_form : List Var → List Form → Form
case_form vars fs = exists_in vars (all_of fs)
