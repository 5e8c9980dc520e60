-- Formulas joined one after another give the folds.
use Rattle.std.proofs.Common.{◌≡◌, true, false, List, [], ◌∷◌, ◌++◌, Option, Some, None, refl, ◌∙◌, ap}
use Rattle.std.specs.Option.{unwrap_or}
use Rattle.soqe_form.specs.declared.form.Form.{Form, And, Or}
use Rattle.soqe_form.specs.Constants.{constant}
use Rattle.soqe_norm.specs.Folds.{or_after, any_of, and_after, all_of}
use Rattle.soqe_norm.specs.Joins.{with_or, or_onto, and_onto}

-- one more at the end
pub or_onto-push : (made : Option Form) (fs : List Form) (f : Form) → or_onto made (fs ++ f ∷ []) ≡ Some (with_or (or_onto made fs) f)
or_onto-push made [] f = refl
or_onto-push made (g ∷ fs) f = or_onto-push (Some (with_or made g)) fs f

or-after : (f : Form) (fs : List Form) → or_onto (Some f) fs ≡ Some (or_after f fs)
or-after f [] = refl
or-after f (g ∷ fs) = or-after (Or f g) fs

any-joined : (fs : List Form) → unwrap_or (or_onto None fs) (constant false) ≡ any_of fs
any-joined [] = refl
any-joined (f ∷ fs) = ap (λ o. unwrap_or o (constant false)) (or-after f fs)

and-after : (f : Form) (fs : List Form) → and_onto (Some f) fs ≡ Some (and_after f fs)
and-after f [] = refl
and-after f (g ∷ fs) = and-after (And f g) fs

all-joined : (fs : List Form) → unwrap_or (and_onto None fs) (constant true) ≡ all_of fs
all-joined [] = refl
all-joined (f ∷ fs) = ap (λ o. unwrap_or o (constant true)) (and-after f fs)

pub joined_any : (fs : List Form) (made : Option Form) → made ≡ or_onto None fs → unwrap_or made (constant false) ≡ any_of fs
joined_any fs made e = ap (λ o. unwrap_or o (constant false)) e ∙ any-joined fs

pub joined_all : (fs : List Form) (made : Option Form) → made ≡ and_onto None fs → unwrap_or made (constant true) ≡ all_of fs
joined_all fs made e = ap (λ o. unwrap_or o (constant true)) e ∙ all-joined fs
