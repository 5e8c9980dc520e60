-- How a case loses its predicate: by the plain try of a sign, positive before negative.
use Rattle.std.specs.Prelude.{ℕ, Bool, true, false, List, [], ◌∷◌}
use Rattle.soqe_term.specs.declared.term.Var.{Var}
use Rattle.soqe_form.specs.declared.form.Pred.TheVariants.{Bound}
use Rattle.soqe_form.specs.declared.form.PVar.{PVar}
use Rattle.soqe_form.specs.declared.form.Form.{Form, All}
use Rattle.soqe_ack.specs.Acked.{IsAcked, IsStuck}

-- the case without its predicate, by the first plain try that succeeds: its sign, its parameters, its value, its formula
pub data IsTried (p : PVar) (keep : List ℕ) (vars : List Var) (fs : List Form) : Bool → List Var → Form → Form → Type 0 where
  positive : {params : List Var} {value form : Form} → IsAcked true p keep vars fs params value form
      → IsTried p keep vars fs true params value form
  negative : {params : List Var} {value form : Form} → IsStuck true (Bound p.num) fs → IsAcked false p keep vars fs params value form
      → IsTried p keep vars fs false params value form

-- no plain try succeeds
pub record IsNotReached (p : PVar) (fs : List Form) : Type 0 where
  pub positive : IsStuck true (Bound p.num) fs
  pub negative : IsStuck false (Bound p.num) fs

-- variables in front of a formula, universally
abbrev pub for_all : List Var → Form → Form
for_all [] f = f
for_all (x ∷ xs) f = All x (for_all xs f)
