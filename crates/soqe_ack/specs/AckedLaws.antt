-- Ackermann's lemma, what is left of the predicate, and which cases have a try.
use Rattle.std.specs.Prelude.{ℕ, ◌≡◌, ◌⊎◌, Bool, true, false, List, [], ◌∷◌, Option, Some}
use Rattle.std.specs.List.{list_any}
use Rattle.soqe_term.specs.declared.term.Var.{Var}
use Rattle.soqe_term.specs.Sorting.{Sorting}
use Rattle.soqe_number.specs.Updates.{changed}
use Rattle.soqe_form.specs.declared.form.Pred.TheVariants.{Bound}
use Rattle.soqe_form.specs.declared.form.PVar.{PVar}
use Rattle.soqe_form.specs.declared.form.Form.{Form, Ex2}
use Rattle.soqe_form.specs.Alike.{AlikeIn}
use Rattle.soqe_form.specs.Free.{free_pred}
use Rattle.soqe_form.specs.Places.{has_blocks}
use Rattle.soqe_form.specs.Sorted.{sorted}
use Rattle.soqe_norm.specs.Folds.{case_form}
use Rattle.soqe_ack.specs.Acked.{IsAcked, IsStuck}

-- Ackermann's lemma: the formula is true exactly where some table of the predicate makes the case true
abbrev pub AckermannsLemma : Type 0
AckermannsLemma = (s : Bool) (p : PVar) (keep : List ℕ) (vars : List Var) (fs : List Form) (params : List Var) (value form : Form)
    → IsAcked s p keep vars fs params value form
    → (e : Sorting) → sorted e (Ex2 p (case_form vars fs)) ≡ true → AlikeIn e form (Ex2 p (case_form vars fs))

-- the formula lacks the predicate
abbrev pub PredicateIsGone : Type 0
PredicateIsGone = (s : Bool) (p : PVar) (keep : List ℕ) (vars : List Var) (fs : List Form) (params : List Var) (value form : Form)
    → IsAcked s p keep vars fs params value form
    → (e : Sorting) → sorted e (Ex2 p (case_form vars fs)) ≡ true → free_pred p.num form ≡ false

-- ---- sorts

-- the formula is well sorted where the case is
abbrev pub AckedIsSorted : Type 0
AckedIsSorted = (s : Bool) (p : PVar) (keep : List ℕ) (vars : List Var) (fs : List Form) (params : List Var) (value form : Form)
    → IsAcked s p keep vars fs params value form
    → (e : Sorting) → sorted e (Ex2 p (case_form vars fs)) ≡ true → sorted e form ≡ true

-- the sorts of variables below binders of some
abbrev pub sorts_below : (ℕ → Option ℕ) → List Var → ℕ → Option ℕ
sorts_below v [] = v
sorts_below v (x ∷ xs) = sorts_below (changed v x.num (Some x.sort)) xs

-- the names known below binders of variables
abbrev pub below : Sorting → List Var → Sorting
below e xs = record e { variable = sorts_below e.variable xs }

-- the value is well sorted below the case's variables and its own parameters
abbrev pub ValueIsSorted : Type 0
ValueIsSorted = (s : Bool) (p : PVar) (keep : List ℕ) (vars : List Var) (fs : List Form) (params : List Var) (value form : Form)
    → IsAcked s p keep vars fs params value form
    → (e : Sorting) → sorted e (Ex2 p (case_form vars fs)) ≡ true → sorted (below (below e vars) params) value ≡ true

-- ---- which cases have a try

-- a try of a sign succeeds, with these results
pub record HasTry (s : Bool) (p : PVar) (keep : List ℕ) (vars : List Var) (fs : List Form) : Type 0 where
  pub params : List Var
  pub value : Form
  pub form : Form
  pub is : IsAcked s p keep vars fs params value form

-- of every case a try of a sign succeeds, or a conjunct stands in its way
abbrev pub AckedOrStuck : Type 0
AckedOrStuck = (s : Bool) (p : PVar) (keep : List ℕ) (vars : List Var) (fs : List Form) → HasTry s p keep vars fs ⊎ IsStuck s (Bound p.num) fs

-- never both
abbrev pub AckedIsNotStuck : Type 0
AckedIsNotStuck = (s : Bool) (p : PVar) (keep : List ℕ) (vars : List Var) (fs : List Form) (params : List Var) (value form : Form)
    → IsAcked s p keep vars fs params value form → IsStuck s (Bound p.num) fs → ⊥

-- the case determines the parameters, the value and the formula
abbrev pub AckedIsUnique : Type 0
AckedIsUnique = (s : Bool) (p : PVar) (keep : List ℕ) (vars : List Var) (fs : List Form) (xs ys : List Var) (v w f g : Form)
    → IsAcked s p keep vars fs xs v f → IsAcked s p keep vars fs ys w g → (xs ≡ ys) × (v ≡ w) × (f ≡ g)

-- ---- quantifiers of predicates

-- where no conjunct has a quantifier of a predicate, neither the value nor the formula has one
abbrev pub AckedHasNoBlocks : Type 0
AckedHasNoBlocks = (s : Bool) (p : PVar) (keep : List ℕ) (vars : List Var) (fs : List Form) (params : List Var) (value form : Form)
    → IsAcked s p keep vars fs params value form → list_any has_blocks fs ≡ false → (has_blocks value ≡ false) × (has_blocks form ≡ false)
