-- How the code replaces a predicate: marks on what a binder could catch, the binding of the arguments, and what becomes of binders.
use Rattle.std.specs.Prelude.{ℕ, ◌≡◌, ◌≤◌, Bool, not, ◌&&◌, cond, List, [], ◌∷◌, ◌++◌, is_some}
use Rattle.soqe_term.specs.declared.bindings.Bound.{Bound}
use Rattle.soqe_term.specs.declared.term.Var.{Var}
use Rattle.soqe_term.specs.declared.term.Term.{Term}
use Rattle.soqe_term.specs.Bindings.{bound_term}
use Rattle.soqe_form.specs.declared.form.PVar.{PVar}
use Rattle.soqe_form.specs.declared.form.Pred.{Pred}
use Rattle.soqe_form.specs.declared.form.Form.{Form}
use Rattle.soqe_form.specs.Free.{free}
use Rattle.soqe_form.specs.FreeVars.{is_among}
use Rattle.soqe_form.specs.FreePreds.{hides}
use Rattle.soqe_number.specs.Marks.{marked}
use Rattle.soqe_form.specs.Mentions.{depth}
use Rattle.soqe_psub.specs.declared.pred_substitution.Replacement.{Replacement}
use Rattle.soqe_psub.specs.PredSubst.{IsPredSub, pred_sub, new_binder, new_body, new_pred_binder, new_pred_body}

-- the number of a variable that is free in the body and no parameter
abbrev pub is_own : List Var → Form → ℕ → Bool
is_own xs b n = free n b && not (is_among xs n)

-- the marks are on these
abbrev pub HasMarks : Replacement → Type 0
HasMarks r = marked r.marks ≡ is_own r.params.now r.body.now

-- r is f with the predicate replaced
abbrev pub Replaces : Replacement → Form → Form → Type 0
Replaces by f r = IsPredSub by.pred.now by.params.now by.body.now f r

-- a binder of y in front of f, and its body, become z and r
pub record ReplacesBelow (q : Pred) (xs : List Var) (b : Form) (y : Var) (f : Form) (z : Var) (r : Form) : Type 0 where
  pub binder : z ≡ new_binder q xs b y f
  pub body : (k : ℕ) → depth f ≤ k → r ≡ pred_sub k q xs b (new_body q xs b y f)

-- the same of a binder of a predicate that doesn't hide the replaced one
pub record ReplacesBelowPred (q : Pred) (xs : List Var) (b : Form) (p : PVar) (f : Form) (z : PVar) (r : Form) : Type 0 where
  pub binder : z ≡ new_pred_binder q b p f
  pub body : (k : ℕ) → depth f ≤ k → r ≡ pred_sub k q xs b (new_pred_body q b p f)

-- the same of any binder of a predicate
pub record ReplacesUnlessHidden (q : Pred) (xs : List Var) (b : Form) (p : PVar) (f : Form) (z : PVar) (r : Form) : Type 0 where
  pub binder : z ≡ cond (hides p.num q) p (new_pred_binder q b p f)
  pub body : (k : ℕ) → depth f ≤ k → r ≡ cond (hides p.num q) f (pred_sub k q xs b (new_pred_body q b p f))

-- the variable has a term
abbrev pub is_known : List Bound → ℕ → Bool
is_known s n = is_some (bound_term s n)

-- the binding with the variable's term, if it has none yet
abbrev pub with_first : List Bound → Var → Term → List Bound
with_first s x t = cond (is_known s x.num) s (s ++ record { var = x; term = t } ∷ [])
