-- The parts of a run while it is written: what a formula is made of that is a case's, and the steps of one case.
use Rattle.std.specs.Prelude.{ℕ, ◌≡◌, Bool, true, false, List, [], ◌∷◌, ◌++◌, Option, Some, None, length}
use Rattle.soqe_term.specs.declared.term.Var.{Var}
use Rattle.soqe_form.specs.declared.form.Pred.TheVariants.{Bound}
use Rattle.soqe_form.specs.declared.form.PVar.{PVar}
use Rattle.soqe_form.specs.declared.form.Form.{Form, And', Ex', end_of-Form as end, more_of-Form as one}
use Rattle.soqe_tidy.specs.Tidy.{tidy}
use Rattle.soqe_norm.specs.declared.case_list.Case.{Case}
use Rattle.soqe_norm.specs.Folds.{all_of, exists_in, case_form}
use Rattle.soqe_ack.specs.declared.steps.DlsStep.{DlsStep}
use Rattle.soqe_ack.specs.declared.steps.DlsStep.TheVariants as step
use Rattle.soqe_ack.specs.declared.steps.Sign.{Sign}
use Rattle.soqe_ack.specs.declared.trying.Tried.{Tried}
use Rattle.soqe_ack.specs.Signs.{is_pos}
use Rattle.soqe_ack.specs.Tries.{IsTried, IsNotReached}
use Rattle.soqe_dls.specs.ShownCases.{IsTidyCase, IsShown}

-- the root of the formula is `&`
abbrev pub is_conjunction : Form → Bool
is_conjunction (And' _ (one f end) _ (one g end)) = true
is_conjunction _ = false

-- the root of the formula is `ex`
abbrev pub is_existential : Form → Bool
is_existential (Ex' x _ (one f end)) = true
is_existential _ = false

-- so many existential variables stand in front of the formula
pub record HasInFront (count : ℕ) (f : Form) : Type 0 where
  pub vars : List Var
  pub body : Form
  pub is : f ≡ exists_in vars body
  pub as_many : length vars ≡ count

-- the formula joins so many formulas by `&`
pub record HasConjuncts (count : ℕ) (f : Form) : Type 0 where
  pub conj : List Form
  pub is : f ≡ all_of conj
  pub as_many : length conj ≡ count

-- the formula is that of a case with so many variables and conjuncts
pub record IsOfCase (variables conjuncts : ℕ) (f : Form) : Type 0 where
  pub vars : List Var
  pub conj : List Form
  pub is : f ≡ case_form vars conj
  pub as_many_vars : length vars ≡ variables
  pub as_many : length conj ≡ conjuncts

-- the steps grow by the value of a try and its formula
pub record WritesTry (keep : List ℕ) (p : PVar) (tried : Tried) (old new : List DlsStep) (form : Form) : Type 0 where
  pub params : List Var
  pub value : Form
  pub shown : IsShown keep tried.params tried.value params value
  pub is : form ≡ tidy keep tried.form
  pub steps : new ≡ old ++ step.Ack tried.sign (Bound p.num) params value ∷ step.Gives form ∷ []

-- the steps grow by those of a case that is reached
pub record WritesReached (keep : List ℕ) (p : PVar) (num : ℕ) (c : Case) (old new : List DlsStep) (form : Form) : Type 0 where
  pub vars : List Var
  pub conj : List Form
  pub tidied : IsTidyCase keep c.vars c.conj vars conj
  pub sign : Sign
  pub params : List Var
  pub value : Form
  pub result : Form
  pub tried : IsTried p keep vars conj (is_pos sign) params value result
  pub new_params : List Var
  pub new_value : Form
  pub shown : IsShown keep params value new_params new_value
  pub is : form ≡ tidy keep result
  pub steps : new ≡ old ++ step.Case num (case_form vars conj) ∷ step.Ack sign (Bound p.num) new_params new_value ∷ step.Gives form ∷ []

-- the steps grow by a case that no try reaches
pub record WritesLost (keep : List ℕ) (p : PVar) (num : ℕ) (c : Case) (old new : List DlsStep) : Type 0 where
  pub vars : List Var
  pub conj : List Form
  pub tidied : IsTidyCase keep c.vars c.conj vars conj
  pub lost : IsNotReached p conj
  pub steps : new ≡ old ++ step.Case num (case_form vars conj) ∷ []

-- one or the other, by whether there is a formula
abbrev pub WritesCase : List ℕ → PVar → ℕ → Case → List DlsStep → List DlsStep → Option Form → Type 0
WritesCase keep p num c old new None = WritesLost keep p num c old new
WritesCase keep p num c old new (Some form) = WritesReached keep p num c old new form
