-- When a line of a block by cases is valid, and what the cases have come to then.
use Rattle.std.specs.Prelude.{◌≡◌, ℕ, suc, Bool, true, not, cond, List, [], ◌∷◌, ◌++◌, length, Option, Some, None}
use Rattle.soqe_term.specs.declared.term.Var.{Var}
use Rattle.soqe_form.specs.declared.form.Form.{Form}
use Rattle.soqe_form.specs.declared.form.Pred.TheVariants.{Bound}
use Rattle.soqe_form.specs.declared.form.Block.{Block}
use Rattle.soqe_form.specs.Same.{same}
use Rattle.soqe_norm.specs.declared.case_list.Case.{Case}
use Rattle.soqe_norm.specs.Apart.{IsApart}
use Rattle.soqe_norm.specs.Cases.{cases_of, form_of}
use Rattle.soqe_norm.specs.Folds.{any_of, case_form}
use Rattle.soqe_norm.specs.Nnf.{nnf}
use Rattle.soqe_ack.specs.declared.steps.Sign.{Sign}
use Rattle.soqe_ack.specs.declared.steps.DlsStep.TheVariants as step
use Rattle.soqe_ack.specs.Acked.{IsAcked}
use Rattle.soqe_ack.specs.GuardLaws.{AreDistinct, sorts_of}
use Rattle.soqe_ack.specs.Signs.{is_pos}
use Rattle.soqe_ack.specs.Tries.{for_all}
use Rattle.soqe_deriv.specs.declared.document.Line.{Line}
use Rattle.soqe_deriv.specs.declared.document.Line.TheVariants as line

-- the present case of a block: its variables and conjuncts as its `case` line has them, and the sign of its `ack` line
pub record Present : Type 0 where
  pub vars : List Var
  pub conj : List Form
  pub sign : Option Bool

-- a block by cases: the formula of its `nnf` line, the cases that are still due, the number of the last case, the present
-- case, and the formulas of the `gives` lines
pub record Cases : Type 0 where
  pub normal : Option Form
  pub due : List Case
  pub number : ℕ
  pub present : Option Present
  pub given : List Form

-- the cases as the opening line of a block leaves them
abbrev pub no_cases : Cases
no_cases = record { normal = None; due = []; number = 0; present = None; given = [] }

-- some formula of the list for an existential quantifier, the normal form of its negation for a universal one
abbrev pub any_for : Bool → List Form → Form
any_for exists fs = cond exists (any_of fs) (nnf true (any_of fs))

-- what cases have come to, nothing before the normal form, nor while a case is due or present
abbrev pub cases_come_to : Bool → Option Form → List Case → Option Present → List Form → Option Form
cases_come_to exists (Some f) [] None given = Some (any_for exists given)
cases_come_to exists _ _ _ given = None

-- the value is the other one, up to the numbers of the parameters, which are distinct and have the sorts of the arguments
pub record IsValueOf (args : List ℕ) (params : List Var) (value : Form) (shown_params : List Var) (shown : Form) : Type 0 where
  pub sorts : sorts_of shown_params ≡ args
  pub distinct : AreDistinct shown_params
  pub same_value : same (for_all shown_params shown) (for_all params value) ≡ true

-- In the block b, whose cases have come to w, the line is valid, and the last cases stand then: one case for each kind of line.
pub data CaseStep (keep : List ℕ) (b : Block) (w : Cases) : Line → Cases → Type 0 where
  normal : {f made : Form} → w.normal ≡ None → same f (nnf (not b.exists) b.body) ≡ true → IsApart keep f made
      → CaseStep keep b w (line.Nnf f) (record w { normal = Some f; due = cases_of (Bound b.pred.num) made })
  case : {c : Case} {cs : List Case} {n : ℕ} {f : Form} {vars : List Var} {fs : List Form} → w.present ≡ None → w.due ≡ c ∷ cs
      → n ≡ suc w.number → same f (form_of c) ≡ true
      → f ≡ case_form vars fs → length vars ≡ length c.vars → length fs ≡ length c.conj
      → CaseStep keep b w (line.Dls (step.Case n f)) (record w { due = cs; number = n; present = Some (record { vars = vars; conj = fs; sign = None }) })
  ack : {c : Present} {s : Sign} {params shown_params : List Var} {value shown form : Form} → w.present ≡ Some c → c.sign ≡ None
      → IsAcked (is_pos s) b.pred keep c.vars c.conj params value form → IsValueOf b.pred.args params value shown_params shown
      → CaseStep keep b w (line.Dls (step.Ack s (Bound b.pred.num) shown_params shown)) (record w { present = Some (record c { sign = Some (is_pos s) }) })
  gives : {c : Present} {s : Bool} {params : List Var} {value form f : Form} → w.present ≡ Some c → c.sign ≡ Some s
      → IsAcked s b.pred keep c.vars c.conj params value form → same f form ≡ true
      → CaseStep keep b w (line.Dls (step.Gives f)) (record w { present = None; given = w.given ++ f ∷ [] })
