-- What holds of the cases of a formula.
use Rattle.std.specs.Prelude.{ℕ, ◌≡◌, ◌≢◌, true, false, List, [], All}
use Rattle.soqe_term.specs.Sorting.{Sorting}
use Rattle.soqe_number.specs.Unused.{member}
use Rattle.soqe_term.specs.declared.term.Var.{Var}
use Rattle.soqe_form.specs.declared.form.Pred.{Pred}
use Rattle.soqe_form.specs.declared.form.Form.{Form}
use Rattle.soqe_form.specs.Alike.{AlikeIn}
use Rattle.soqe_form.specs.Free.{free, free_pred}
use Rattle.soqe_form.specs.Sorted.{sorted}
use Rattle.soqe_form.specs.Places.{has_blocks}
use Rattle.soqe_norm.specs.declared.case_list.Case.{Case}
use Rattle.soqe_norm.specs.Nnf.{is_nnf}
use Rattle.soqe_norm.specs.Apart.{IsApart, binders}
use Rattle.soqe_norm.specs.Cases.{cases_of, form_of, some_case}

-- these are the cases of the formula, once its bound variables are made distinct and none is among the numbers to keep out
pub record AreCases (keep : List ℕ) (q : Pred) (f : Form) (cs : List Case) : Type 0 where
  pub apart : Form
  pub distinct : IsApart keep f apart
  pub are : cs ≡ cases_of q apart

-- some case holds exactly where the formula does
abbrev pub CasesKeepTruth : Type 0
CasesKeepTruth = (keep : List ℕ) (f made : Form) → IsApart keep f made → (q : Pred) (e : Sorting) → AlikeIn e (some_case (cases_of q made)) f

-- each case of a well-sorted formula is well sorted
abbrev pub CasesKeepSorts : Type 0
CasesKeepSorts = (keep : List ℕ) (f made : Form) → IsApart keep f made → (q : Pred) (e : Sorting) → sorted e f ≡ true
    → All (λ c. sorted e (form_of c) ≡ true) (cases_of q made)

-- some case holds: that is a well-sorted formula
abbrev pub CasesAreSorted : Type 0
CasesAreSorted = (keep : List ℕ) (f made : Form) → IsApart keep f made → (q : Pred) (e : Sorting) → sorted e f ≡ true → sorted e (some_case (cases_of q made)) ≡ true

-- there is a case
abbrev pub CasesAreThere : Type 0
CasesAreThere = (q : Pred) (f : Form) → cases_of q f ≢ []

-- the variables of a case have the numbers of binders of the formula
abbrev pub CasesTakeBinders : Type 0
CasesTakeBinders = (q : Pred) (f : Form) → All (λ c. All (λ (x : Var). member x.num (binders f) ≡ true) c.vars) (cases_of q f)

-- what is free in a case is free in the formula
abbrev pub CasesGainNoVariable : Type 0
CasesGainNoVariable = (n : ℕ) (q : Pred) (f : Form) → All (λ c. free n (form_of c) ≡ true → free n f ≡ true) (cases_of q f)

-- a bound predicate that is free in a conjunct is free in the formula
abbrev pub CasesGainNoPredicate : Type 0
CasesGainNoPredicate = (n : ℕ) (q : Pred) (f : Form) → All (λ c. All (λ g. free_pred n g ≡ true → free_pred n f ≡ true) c.conj) (cases_of q f)

-- the conjuncts of a normal form's cases are normal forms
abbrev pub CasesKeepNormal : Type 0
CasesKeepNormal = (q : Pred) (f : Form) → is_nnf f ≡ true → All (λ c. All (λ g. is_nnf g ≡ true) c.conj) (cases_of q f)

-- where no predicate is quantified in a formula, none is in a conjunct of its cases
abbrev pub CasesKeepBlocks : Type 0
CasesKeepBlocks = (q : Pred) (f : Form) → has_blocks f ≡ false → All (λ c. All (λ g. has_blocks g ≡ false) c.conj) (cases_of q f)
