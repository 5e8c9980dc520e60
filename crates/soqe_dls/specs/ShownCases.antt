-- What a document shows of a case and of the value for its predicate.
use Rattle.std.specs.Prelude.{ℕ, ◌≡◌, not, ◌||◌, ◌&&◌, List, [], ◌∷◌, length, map}
use Rattle.soqe_term.specs.declared.bindings.Bound.{Bound as Bind}
use Rattle.soqe_term.specs.declared.term.Var.{Var}
use Rattle.soqe_term.specs.declared.term.Term.{Var as var}
use Rattle.soqe_number.specs.Unused.{member}
use Rattle.soqe_form.specs.declared.form.Form.{Form}
use Rattle.soqe_form.specs.Free.{free}
use Rattle.soqe_form.specs.FreeVars.{is_among}
use Rattle.soqe_form.specs.Mentions.{depth}
use Rattle.soqe_subst.specs.Substitution.{sub}
use Rattle.soqe_tidy.specs.Tidy.{tidy}
use Rattle.soqe_norm.specs.Folds.{case_form}
use Rattle.soqe_ack.specs.Acked.{AreParameters}

-- the second case is the first with the numbers of its tidy formula
pub record IsTidyCase (keep : List ℕ) (vars : List Var) (fs : List Form) (new_vars : List Var) (new_fs : List Form) : Type 0 where
  pub tidied : case_form new_vars new_fs ≡ tidy keep (case_form vars fs)
  pub as_many_vars : length new_vars ≡ length vars
  pub as_many : length new_fs ≡ length fs

-- each variable of the first list becomes the one at its place in the second
abbrev pub by_vars : List Var → List Var → List Bind
by_vars [] ys = []
by_vars (x ∷ xs) [] = []
by_vars (x ∷ xs) (y ∷ ys) = record { var = x; term = var y } ∷ by_vars xs ys

-- a value as it is shown: its parameters get, from first to last, the least numbers that are neither kept, nor free in the value
-- apart from the parameters, nor an earlier parameter's; then it is tidy
pub record IsShown (keep : List ℕ) (params : List Var) (value : Form) (new_params : List Var) (new_value : Form) : Type 0 where
  pub numbers : AreParameters (λ n. member n keep || (free n value && not (is_among params n))) (map (λ x. x.sort) params) new_params
  pub shown : new_value ≡ tidy keep (sub (depth value) (by_vars params new_params) value)
