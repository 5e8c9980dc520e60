-- What a formula says after a predicate was replaced.
use Rattle.std.specs.Prelude.{ℕ, ◌≡◌, ◌≤◌, Bool, true, false, eqb, cond, List, [], ◌∷◌, length, map, Option, Some}
use Rattle.soqe_term.specs.declared.term.Var.{Var}
use Rattle.soqe_term.specs.World.{World}
use Rattle.soqe_number.specs.Updates.{changed}
use Rattle.soqe_term.specs.Sorting.{Sorting}
use Rattle.soqe_form.specs.declared.form.Pred.{Pred}
use Rattle.soqe_form.specs.declared.form.Form.{Form}
use Rattle.soqe_form.specs.FreePreds.{has_free, has_atom, with_pred, over_pred}
use Rattle.soqe_form.specs.Mentions.{depth}
use Rattle.soqe_form.specs.Places.{has_blocks}
use Rattle.soqe_form.specs.Sorted.{sorted}
use Rattle.soqe_form.specs.Truth.{truth, holds}
use Rattle.soqe_psub.specs.PredSubst.{pred_sub}

-- the elements of the variables, with the arguments for the parameters; of two parameters with one number the first counts
abbrev pub with_args : (ℕ → ℕ) → List Var → List ℕ → ℕ → ℕ
with_args e [] args = e
with_args e (x ∷ xs) [] = e
with_args e (x ∷ xs) (a ∷ more) = changed (with_args e xs more) x.num a

-- the table that the body defines in a world: at as many arguments as there are parameters the truth of the body with the
-- parameters set to them, elsewhere the predicate as before
abbrev pub table : World → Pred → List Var → Form → List ℕ → Bool
table w q xs b args = cond (eqb (length args) (length xs)) (truth (record w { element = with_args w.element xs args }) b) (holds w q args)

-- in every world, r has the truth of f where the predicate has the table that the body defines
abbrev pub HasTruthOfPredSub : Pred → List Var → Form → Form → Form → Type 0
HasTruthOfPredSub q xs b f r = (w : World) → truth w r ≡ truth (with_pred w q (table w q xs b)) f

-- the same of the definition
abbrev pub PredSubHasTruth : Type 0
PredSubHasTruth = (k : ℕ) (q : Pred) (xs : List Var) (b f : Form) → depth f ≤ k → HasTruthOfPredSub q xs b f (pred_sub k q xs b f)

-- ---- sorts

-- the sorts of the variables, with those of the parameters; of two parameters with one number the first counts
abbrev pub with_params : (ℕ → Option ℕ) → List Var → ℕ → Option ℕ
with_params v [] = v
with_params v (x ∷ xs) = changed (with_params v xs) x.num (Some x.sort)

-- the sorting that knows the parameters too
abbrev pub over_params : Sorting → List Var → Sorting
over_params e xs = record e { variable = with_params e.variable xs }

-- the sorts of the parameters
abbrev pub param_sorts : List Var → List ℕ
param_sorts xs = map (λ x. x.sort) xs

-- r is well sorted wherever the body is with the parameters known, and f is where the predicate has the parameters' sorts
abbrev pub PredSubKeepsSorts : Pred → List Var → Form → Form → Form → Type 0
PredSubKeepsSorts q xs b f r = (e : Sorting) → sorted (over_params e xs) b ≡ true → sorted (over_pred e q (param_sorts xs)) f ≡ true → sorted e r ≡ true

-- the same of the definition
abbrev pub PredSubIsSorted : Type 0
PredSubIsSorted = (k : ℕ) (q : Pred) (xs : List Var) (b f : Form) → depth f ≤ k → PredSubKeepsSorts q xs b f (pred_sub k q xs b f)

-- ---- what is left of the predicate

-- where the predicate is not free in the body, it has no free atom in r with as many arguments as there are parameters
abbrev pub LeavesNone : Pred → List Var → Form → Form → Type 0
LeavesNone q xs b r = has_free q b ≡ false → has_atom q (λ n. eqb n (length xs)) r ≡ false

-- and none at all where f is well sorted with the parameters' sorts for the predicate
abbrev pub LeavesNoneWhereSorted : Pred → List Var → Form → Form → Form → Type 0
LeavesNoneWhereSorted q xs b f r = has_free q b ≡ false → (e : Sorting) → sorted (over_pred e q (param_sorts xs)) f ≡ true → has_free q r ≡ false

-- where neither f nor the body has a quantifier of a predicate, r has none
abbrev pub AddsNoBlocks : Form → Form → Form → Type 0
AddsNoBlocks b f r = has_blocks b ≡ false → has_blocks f ≡ false → has_blocks r ≡ false

-- no free atom of the predicate is left by the definition but with another number of arguments
abbrev pub PredSubIsGone : Type 0
PredSubIsGone = (k : ℕ) (q : Pred) (xs : List Var) (b f : Form) → depth f ≤ k → LeavesNone q xs b (pred_sub k q xs b f)

-- none at all is left by it where the formula is well sorted
abbrev pub PredSubIsGoneWhereSorted : Type 0
PredSubIsGoneWhereSorted = (k : ℕ) (q : Pred) (xs : List Var) (b f : Form) → depth f ≤ k → LeavesNoneWhereSorted q xs b f (pred_sub k q xs b f)

-- no quantifier of a predicate is new by it
abbrev pub PredSubHasNoBlocks : Type 0
PredSubHasNoBlocks = (k : ℕ) (q : Pred) (xs : List Var) (b f : Form) → depth f ≤ k → AddsNoBlocks b f (pred_sub k q xs b f)
