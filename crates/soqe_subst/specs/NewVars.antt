-- The new variables of the binders around a part of a formula, and how they keep apart from what else stands there.
use Rattle.std.specs.Prelude.{ℕ, ◌≡◌, Bool, true, false, List, Option, Some, None, nat_eq}
use Rattle.std.specs.Map.{lookup}
use Rattle.std.specs.Option.{unwrap_or}
use Rattle.soqe_term.specs.declared.bindings.Bound.{Bound}
use Rattle.soqe_term.specs.declared.term.Var.{Var}
use Rattle.soqe_form.specs.declared.form.Form.{Form}
use Rattle.soqe_subst.specs.Substitution.{bound_mentions}
use Rattle.soqe_subst.specs.Renewed.{binds}

-- the new variable in the place of the variable with a number, where it has one
unfoldable pub new_var : List (ℕ × Option Var) → ℕ → Option Var
new_var entries n = unwrap_or (lookup (nat_eq n) entries) None

-- variables with new ones are hidden, and the new ones do not stand in what is seen of the binding
pub record IsApart (seen : List Bound) (hidden : ℕ → Bool) (r : ℕ → Option Var) : Type 0 where
  pub hides : (n : ℕ) (z : Var) → r n ≡ Some z → hidden n ≡ true
  pub stands : (n : ℕ) (z : Var) → r n ≡ Some z → bound_mentions z.num seen ≡ false

-- no binder of the formula binds a new variable
abbrev pub AreOpen : (ℕ → Option Var) → Form → Type 0
AreOpen r f = (n : ℕ) (z : Var) → r n ≡ Some z → binds z.num f ≡ false
