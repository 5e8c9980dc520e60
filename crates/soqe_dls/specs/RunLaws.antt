-- What holds of the answers by cases.
use Rattle.std.specs.Prelude.{ℕ, suc, ◌≡◌, ◌↔◌, true, false, List, ◌∷◌, ◌++◌, length}
use Rattle.std.specs.List.{All}
use Rattle.soqe_term.specs.declared.term.Var.{Var}
use Rattle.soqe_term.specs.Sorting.{Sorting}
use Rattle.soqe_form.specs.declared.form.Pred.TheVariants.{Bound}
use Rattle.soqe_form.specs.declared.form.PVar.{PVar}
use Rattle.soqe_form.specs.declared.form.Form.{Form, Ex2}
use Rattle.soqe_form.specs.Alike.{AlikeIn}
use Rattle.soqe_form.specs.Places.{has_blocks}
use Rattle.soqe_form.specs.Sorted.{sorted}
use Rattle.soqe_norm.specs.declared.case_list.Case.{Case}
use Rattle.soqe_norm.specs.CasesLaws.{AreCases}
use Rattle.soqe_ack.specs.declared.steps.DlsStep.{DlsStep}
use Rattle.soqe_ack.specs.Tries.{IsNotReached}
use Rattle.soqe_dls.specs.ShownCases.{IsTidyCase}
use Rattle.soqe_dls.specs.declared.elimination.DlsEnd.{DlsEnd}
use Rattle.soqe_dls.specs.declared.elimination.DlsEnd.TheVariants as end
use Rattle.soqe_dls.specs.Runs.{IsAnswer}

-- the formula of an answer is alike to the block, and well sorted, for what is known of the names
pub record Answers (e : Sorting) (p : PVar) (f form : Form) : Type 0 where
  pub alike : AlikeIn e form (Ex2 p f)
  pub sorts : sorted e form ≡ true

-- an answer with a formula answers the block, wherever the block is well sorted
abbrev pub EndsTrue : PVar → Form → DlsEnd → Type 0
EndsTrue p f (end.Done steps form) = (e : Sorting) → sorted e (Ex2 p f) ≡ true → Answers e p f form
EndsTrue p f (end.NotReached steps n) = Unit {0}

-- every answer does so
abbrev pub DoneHasTruth : Type 0
DoneHasTruth = (keep : List ℕ) (p : PVar) (f : Form) (r : DlsEnd) → IsAnswer keep p f r → EndsTrue p f r

-- where no predicate is quantified in the normal form, none is in the formula of an answer
abbrev pub DoneHasNoBlocks : Type 0
DoneHasNoBlocks = (keep : List ℕ) (p : PVar) (f form : Form) (steps : List DlsStep) → IsAnswer keep p f (end.Done steps form) → has_blocks f ≡ false → has_blocks form ≡ false

-- a block has one answer
abbrev pub OneAnswer : Type 0
OneAnswer = (keep : List ℕ) (p : PVar) (f : Form) (r s : DlsEnd) → IsAnswer keep p f r → IsAnswer keep p f s → r ≡ s

-- no plain try succeeds on the tidy case
pub record IsLost (keep : List ℕ) (p : PVar) (c : Case) : Type 0 where
  pub vars : List Var
  pub conj : List Form
  pub tidied : IsTidyCase keep c.vars c.conj vars conj
  pub lost : IsNotReached p conj

-- the n-th case is the first that no try reaches
pub record IsFirstLost (keep : List ℕ) (p : PVar) (cs : List Case) (n : ℕ) : Type 0 where
  pub before : List Case
  pub case : Case
  pub behind : List Case
  pub split : cs ≡ before ++ case ∷ behind
  pub number : n ≡ suc (length before)
  pub lost : IsLost keep p case
  pub earlier : All (λ c. IsLost keep p c → ⊥) before

-- the answer is that the n-th case is not reached
abbrev pub NamesCase : ℕ → DlsEnd → Type 0
NamesCase n (end.Done steps form) = ⊥
NamesCase n (end.NotReached steps m) = m ≡ n

-- the answer names a case exactly where that one is the first that no try reaches
abbrev pub NotReachedExactly : Type 0
NotReachedExactly = (keep : List ℕ) (p : PVar) (f : Form) (r : DlsEnd) → IsAnswer keep p f r
    → (cs : List Case) → AreCases keep (Bound p.num) f cs → (n : ℕ) → NamesCase n r ↔ IsFirstLost keep p cs n
