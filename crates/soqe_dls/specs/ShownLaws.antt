-- What a value as it is shown has in common with the value.
use Rattle.std.specs.Prelude.{ℕ, ◌≡◌, true, false, List}
use Rattle.soqe_term.specs.declared.term.Var.{Var}
use Rattle.soqe_term.specs.Sorting.{Sorting}
use Rattle.soqe_number.specs.Unused.{member}
use Rattle.soqe_form.specs.declared.form.Form.{Form}
use Rattle.soqe_form.specs.FreeVars.{is_among}
use Rattle.soqe_form.specs.Same.{same}
use Rattle.soqe_form.specs.Sorted.{sorted}
use Rattle.soqe_ack.specs.AckedLaws.{below}
use Rattle.soqe_ack.specs.GuardLaws.{AreDistinct}
use Rattle.soqe_ack.specs.Tries.{for_all}
use Rattle.soqe_dls.specs.ShownCases.{IsShown}

-- with the parameters in front, the value and what is shown of it are the same formula, where the value is well sorted below
-- its parameters
abbrev pub ShownIsSame : Type 0
ShownIsSame = (keep : List ℕ) (params : List Var) (value : Form) (new_params : List Var) (new_value : Form) → AreDistinct params
    → IsShown keep params value new_params new_value
    → (e : Sorting) → sorted (below e params) value ≡ true → same (for_all new_params new_value) (for_all params value) ≡ true

-- the value as it is shown is well sorted below its parameters, where the value is below its own
abbrev pub ShownIsSorted : Type 0
ShownIsSorted = (keep : List ℕ) (params : List Var) (value : Form) (new_params : List Var) (new_value : Form) → AreDistinct params
    → IsShown keep params value new_params new_value
    → (e : Sorting) → sorted (below e params) value ≡ true → sorted (below e new_params) new_value ≡ true

-- the parameters that are shown have distinct numbers, and none that is kept
abbrev pub ShownIsDistinct : Type 0
ShownIsDistinct = (keep : List ℕ) (params : List Var) (value : Form) (new_params : List Var) (new_value : Form)
    → IsShown keep params value new_params new_value
    → AreDistinct new_params × ((n : ℕ) → is_among new_params n ≡ true → member n keep ≡ false)

-- a value is shown in one way
abbrev pub OneShown : Type 0
OneShown = (keep : List ℕ) (params : List Var) (value : Form) (xs ys : List Var) (f g : Form)
    → IsShown keep params value xs f → IsShown keep params value ys g → (xs ≡ ys) × (f ≡ g)
