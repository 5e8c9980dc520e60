-- The elimination of a block's predicate by the cases of a normal form: the steps, and what they come to.
use Rattle.std.specs.Prelude.{ℕ, suc, ◌≡◌, List, [], ◌∷◌}
use Rattle.soqe_term.specs.declared.term.Var.{Var}
use Rattle.soqe_form.specs.declared.form.Pred.TheVariants.{Bound}
use Rattle.soqe_form.specs.declared.form.PVar.{PVar}
use Rattle.soqe_form.specs.declared.form.Form.{Form}
use Rattle.soqe_tidy.specs.Tidy.{tidy}
use Rattle.soqe_norm.specs.declared.case_list.Case.{Case}
use Rattle.soqe_norm.specs.CasesLaws.{AreCases}
use Rattle.soqe_norm.specs.Folds.{any_of, case_form}
use Rattle.soqe_ack.specs.declared.steps.Sign.{Sign}
use Rattle.soqe_ack.specs.declared.steps.DlsStep.{DlsStep}
use Rattle.soqe_ack.specs.declared.steps.DlsStep.TheVariants as step
use Rattle.soqe_ack.specs.Signs.{is_pos}
use Rattle.soqe_ack.specs.Tries.{IsTried, IsNotReached}
use Rattle.soqe_dls.specs.ShownCases.{IsTidyCase, IsShown}
use Rattle.soqe_dls.specs.declared.elimination.DlsEnd.{DlsEnd}
use Rattle.soqe_dls.specs.declared.elimination.DlsEnd.TheVariants as end

-- how the cases end: each with a formula, or at the number of the first that no try reaches
pub data Outcome : Type 0 where
  Reached : List Form → Outcome
  NotReached : ℕ → Outcome

-- the outcome with one more formula in front
abbrev pub after : Form → Outcome → Outcome
after f (Reached fs) = Reached (f ∷ fs)
after f (NotReached n) = NotReached n

-- From the case after the number n on, these are the steps, and this is the outcome. Formulas are tidy with the numbers to keep out.
pub data IsRun (keep : List ℕ) (p : PVar) : ℕ → List Case → List DlsStep → Outcome → Type 0 where
  no_more : {n : ℕ} → IsRun keep p n [] [] (Reached [])
  reached : {n : ℕ} {c : Case} {cs : List Case} {vars : List Var} {fs : List Form} (sign : Sign) {params : List Var} {value form : Form} {ys : List Var} {shown : Form}
      {steps : List DlsStep} {o : Outcome}
      → IsTidyCase keep c.vars c.conj vars fs → IsTried p keep vars fs (is_pos sign) params value form → IsShown keep params value ys shown
      → IsRun keep p (suc n) cs steps o
      → IsRun keep p n (c ∷ cs)
      (step.Case (suc n) (case_form vars fs) ∷ step.Ack sign (Bound p.num) ys shown ∷ step.Gives (tidy keep form) ∷ steps) (after (tidy keep form) o)
  stops : {n : ℕ} {c : Case} {cs : List Case} {vars : List Var} {fs : List Form} → IsTidyCase keep c.vars c.conj vars fs → IsNotReached p fs
      → IsRun keep p n (c ∷ cs) (step.Case (suc n) (case_form vars fs) ∷ []) (NotReached (suc n))

-- every case has a formula, and the answer joins them by `|`
pub record IsDone (keep : List ℕ) (p : PVar) (cs : List Case) (steps : List DlsStep) (form : Form) : Type 0 where
  pub forms : List Form
  pub run : IsRun keep p 0 cs steps (Reached forms)
  pub is : form ≡ any_of forms

-- how the cases end
abbrev pub EndsRun : List ℕ → PVar → List Case → DlsEnd → Type 0
EndsRun keep p cs (end.Done steps form) = IsDone keep p cs steps form
EndsRun keep p cs (end.NotReached steps n) = IsRun keep p 0 cs steps (NotReached n)

-- the answer for the block of p over the normal form f
pub record IsAnswer (keep : List ℕ) (p : PVar) (f : Form) (answer : DlsEnd) : Type 0 where
  pub cases : List Case
  pub are : AreCases keep (Bound p.num) f cases
  pub ends : EndsRun keep p cases answer
