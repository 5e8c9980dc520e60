-- A formula in place of a predicate: each free atom of the predicate becomes the body, with the arguments for the parameters.
use Rattle.std.specs.Prelude.{ℕ, ◌≡◌, ◌≤◌, suc, zero, max, eqb, Bool, ◌||◌, ◌&&◌, cond, not, List, [], ◌∷◌, length}
use Rattle.soqe_term.specs.declared.bindings.Bound.{Bound}
use Rattle.soqe_term.specs.declared.term.Var.{Var}
use Rattle.soqe_term.specs.declared.term.Terms.{Terms, Nil, Cons', end_of-Term as end-t, more_of-Term as one-t, end_of-Terms as ends-t, more_of-Terms as ones-t}
use Rattle.soqe_term.specs.Occurs.{first_from}
use Rattle.soqe_form.specs.declared.form.PVar.{PVar}
use Rattle.soqe_form.specs.declared.form.Pred.{Pred}
use Rattle.soqe_form.specs.declared.form.Form.{Form, True, False, Equal, Atom, Not, Not', And, And', Or, Or', Imp, Imp', Iff, Iff', All, All', Ex, Ex', All2, All2', Ex2, Ex2', end_of-Form as end, more_of-Form as one}
use Rattle.soqe_form.specs.Free.{free, free_pred}
use Rattle.soqe_form.specs.FreeVars.{is_among}
use Rattle.soqe_form.specs.FreePreds.{same_pred, hides, has_free, count}
use Rattle.soqe_form.specs.Mentions.{mentions, form_above, depth}
use Rattle.soqe_subst.specs.PredRenaming.{renamed_pred, renumbered}
use Rattle.soqe_form.specs.MentionsPreds.{mentions_pred, preds_above}
use Rattle.soqe_subst.specs.Substitution.{without, renamed, sub}
use Rattle.soqe_term.specs.Renumber.{numbered}

-- each parameter with its argument; of two parameters with one number the first counts
abbrev pub arguments : List Var → Terms → List Bound
arguments [] ts = []
arguments (x ∷ xs) Nil = []
arguments (x ∷ xs) (Cons' _ (one-t t end-t) _ (ones-t ts ends-t)) = record { var = x; term = t } ∷ without x.num (arguments xs ts)

-- ---- binders of variables

-- a binder of y in front of f would bind a free variable of the body, which takes the place of an atom in f
abbrev pub catches_var : Pred → List Var → Form → Var → Form → Bool
catches_var q xs b y f = (free y.num b && not (is_among xs y.num)) && has_free q f

-- every number from here on is that of no variable of the list
abbrev pub vars_above : List Var → ℕ
vars_above [] = 0
vars_above (x ∷ xs) = max (suc x.num) (vars_above xs)

-- a number that stands in none of the parameters, the body, and the formula that begins at a binder of y in front of f
abbrev pub lacks_var : List Var → Form → Var → Form → ℕ → Bool
lacks_var xs b y f n = not (is_among xs n || (mentions n b || (eqb n y.num || mentions n f)))

-- the least such number
abbrev pub fresh_var : List Var → Form → Var → Form → ℕ
fresh_var xs b y f = first_from (lacks_var xs b y f) 0 (max (vars_above xs) (max (form_above b) (max (suc y.num) (form_above f))))

-- the binder of y in front of f, with a new number where it would catch a variable
abbrev pub new_binder : Pred → List Var → Form → Var → Form → Var
new_binder q xs b y f = cond (catches_var q xs b y f) (numbered y (fresh_var xs b y f)) y

-- and its body
abbrev pub new_body : Pred → List Var → Form → Var → Form → Form
new_body q xs b y f = cond (catches_var q xs b y f) (renamed y.num (numbered y (fresh_var xs b y f)) f) f

-- ---- binders of predicates

-- a binder of p in front of f would bind a free predicate of the body, which takes the place of an atom in f
abbrev pub catches_pred : Pred → Form → PVar → Form → Bool
catches_pred q b p f = free_pred p.num b && has_free q f

-- a number that stands in neither the body nor the formula that begins at a binder of p in front of f
abbrev pub lacks_pred : Form → PVar → Form → ℕ → Bool
lacks_pred b p f n = not (mentions_pred n b || (eqb n p.num || mentions_pred n f))

-- the least such number
abbrev pub fresh_pred : Form → PVar → Form → ℕ
fresh_pred b p f = first_from (lacks_pred b p f) 0 (max (preds_above b) (max (suc p.num) (preds_above f)))

-- the binder of p in front of f, with a new number where it would catch a predicate
abbrev pub new_pred_binder : Pred → Form → PVar → Form → PVar
new_pred_binder q b p f = cond (catches_pred q b p f) (renumbered p (fresh_pred b p f)) p

-- and its body
abbrev pub new_pred_body : Pred → Form → PVar → Form → Form
new_pred_body q b p f = cond (catches_pred q b p f) (renamed_pred p.num (fresh_pred b p f) f) f

-- ---- the whole formula

-- an atom of the predicate with as many arguments as there are parameters becomes the body with the arguments, and any other stays
abbrev pub atom_sub : Pred → List Var → Form → Pred → Terms → Form
atom_sub q xs b p ts = cond (same_pred q p && eqb (count ts) (length xs)) (sub (depth b) (arguments xs ts) b) (Atom p ts)

-- the body b, with parameters xs, in place of the predicate q in a formula that is no deeper than k; a binder that hides q stays
-- as it is with all that stands below it
abbrev pub pred_sub : ℕ → Pred → List Var → Form → Form → Form
pred_sub zero q xs b f = f
pred_sub (suc k) q xs b True = True
pred_sub (suc k) q xs b False = False
pred_sub (suc k) q xs b (Equal s t) = Equal s t
pred_sub (suc k) q xs b (Atom p ts) = atom_sub q xs b p ts
pred_sub (suc k) q xs b (Not' _ (one f end)) = Not (pred_sub k q xs b f)
pred_sub (suc k) q xs b (And' _ (one f end) _ (one g end)) = And (pred_sub k q xs b f) (pred_sub k q xs b g)
pred_sub (suc k) q xs b (Or' _ (one f end) _ (one g end)) = Or (pred_sub k q xs b f) (pred_sub k q xs b g)
pred_sub (suc k) q xs b (Imp' _ (one f end) _ (one g end)) = Imp (pred_sub k q xs b f) (pred_sub k q xs b g)
pred_sub (suc k) q xs b (Iff' _ (one f end) _ (one g end)) = Iff (pred_sub k q xs b f) (pred_sub k q xs b g)
pred_sub (suc k) q xs b (All' y _ (one f end)) = All (new_binder q xs b y f) (pred_sub k q xs b (new_body q xs b y f))
pred_sub (suc k) q xs b (Ex' y _ (one f end)) = Ex (new_binder q xs b y f) (pred_sub k q xs b (new_body q xs b y f))
pred_sub (suc k) q xs b (All2' p _ (one f end)) = cond (hides p.num q) (All2 p f) (All2 (new_pred_binder q b p f) (pred_sub k q xs b (new_pred_body q b p f)))
pred_sub (suc k) q xs b (Ex2' p _ (one f end)) = cond (hides p.num q) (Ex2 p f) (Ex2 (new_pred_binder q b p f) (pred_sub k q xs b (new_pred_body q b p f)))

-- r is f with the body in place of the predicate: for each depth that is enough
pub record IsPredSub (q : Pred) (xs : List Var) (b f r : Form) : Type 0 where
  pub by : (k : ℕ) → depth f ≤ k → r ≡ pred_sub k q xs b f
