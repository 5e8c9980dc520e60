-- The numbers that stand in a formula and in a binding, each as often as it stands there.
use Rattle.std.specs.Prelude.{ℕ, ◌≡◌, Bool, cond, List, [], ◌∷◌, ◌++◌, Option, Some, None}
use Rattle.soqe_term.specs.declared.bindings.Bound.{Bound}
use Rattle.soqe_term.specs.declared.term.Term.{Term}
use Rattle.soqe_term.specs.declared.term.Terms.{Terms}
use Rattle.soqe_term.specs.Bindings.{bound_term}
use Rattle.soqe_form.specs.declared.form.Form.{Form, True, False, Equal, Atom, Not', And', Or', Imp', Iff', All', Ex', All2', Ex2', end_of-Form as end, more_of-Form as one}
use Rattle.soqe_form.specs.FreeVars.{occurrences, all_occurrences}
use Rattle.soqe_uses.specs.Numbers.{numbers}
use Rattle.soqe_term.specs.declared.term.Var.{Var}
use Rattle.soqe_subst.specs.NewVars.{new_var}
use Rattle.soqe_subst.specs.Renewed.{renewed}

-- the numbers of a term's variables
abbrev pub term_numbers : Term → List ℕ
term_numbers t = numbers (occurrences t)

abbrev pub terms_numbers : Terms → List ℕ
terms_numbers ts = numbers (all_occurrences ts)

-- the numbers of a formula's variables, bound ones too, and of its binders
abbrev pub form_numbers : Form → List ℕ
form_numbers True = []
form_numbers False = []
form_numbers (Equal s t) = term_numbers s ++ term_numbers t
form_numbers (Atom p ts) = terms_numbers ts
form_numbers (Not' _ (one f end)) = form_numbers f
form_numbers (And' _ (one f end) _ (one g end)) = form_numbers f ++ form_numbers g
form_numbers (Or' _ (one f end) _ (one g end)) = form_numbers f ++ form_numbers g
form_numbers (Imp' _ (one f end) _ (one g end)) = form_numbers f ++ form_numbers g
form_numbers (Iff' _ (one f end) _ (one g end)) = form_numbers f ++ form_numbers g
form_numbers (All' x _ (one f end)) = x.num ∷ form_numbers f
form_numbers (Ex' x _ (one f end)) = x.num ∷ form_numbers f
form_numbers (All2' p _ (one f end)) = form_numbers f
form_numbers (Ex2' p _ (one f end)) = form_numbers f

-- the numbers of a binding's variables and of their terms
abbrev pub binding_numbers : List Bound → List ℕ
binding_numbers [] = []
binding_numbers (b ∷ more) = b.var.num ∷ (term_numbers b.term ++ binding_numbers more)

-- the numbers of the variable n and of its term, where the binding has it
abbrev pub entry_numbers : ℕ → Option Term → List ℕ
entry_numbers n None = []
entry_numbers n (Some t) = n ∷ term_numbers t

-- the numbers of the variable and the term at a place of the binding, where the variable is not hidden
abbrev pub numbers_at : (ℕ → Bool) → Option Bound → List ℕ
numbers_at h None = []
numbers_at h (Some b) = cond (h b.var.num) [] (b.var.num ∷ term_numbers b.term)

-- the numbers that a new number must not be
abbrev pub standing : List Bound → Form → List ℕ
standing s f = binding_numbers s ++ form_numbers f

-- the numbers that stand neither below a binder of y nor in the binding without y
abbrev pub lost_below : List Bound → ℕ → List ℕ
lost_below s y = y ∷ entry_numbers y (bound_term s y)

-- the numbers of the form with its new variables were listed, and the new variables stayed
pub record ListsForm (f : Form) (vars_old vars_new : List (ℕ × Option Var)) (old new : List ℕ) : Type 0 where
  pub nums : new ≡ old ++ form_numbers (renewed (new_var vars_old) f)
  pub vars : new_var vars_new ≡ new_var vars_old
