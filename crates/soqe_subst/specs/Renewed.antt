-- A formula whose free variables have new variables in their places: r gives the new variable of a number, where it has one. Binders
-- stay. It is what is left of a formula's renamed binders around one of its parts.
use Rattle.std.specs.Prelude.{ℕ, Bool, eqb, false, ◌||◌, Option, None}
use Rattle.std.specs.Option.{unwrap_or}
use Rattle.soqe_number.specs.Updates.{changed}
use Rattle.soqe_term.specs.declared.term.Var.{Var}
use Rattle.soqe_term.specs.declared.term.Term.{Term, Var as var, App}
use Rattle.soqe_term.specs.declared.term.Terms.{Terms, Nil, Cons, Cons', end_of-Term as end-t, more_of-Term as one-t, end_of-Terms as ends-t, more_of-Terms as ones-t}
use Rattle.soqe_form.specs.declared.form.Form.{Form, True, False, Equal, Atom, Not, Not', And, And', Or, Or', Imp, Imp', Iff, Iff', All, All', Ex, Ex', All2, All2', Ex2, Ex2', end_of-Form as end, more_of-Form as one}

-- the new variable in the place of y
abbrev pub renewed_var : (ℕ → Option Var) → Var → Var
renewed_var r y = unwrap_or (r y.num) y

abbrev mutual
  -- a term with its new variables
  pub renewed_term : (ℕ → Option Var) → Term → Term
  renewed_term r (var y) = var (renewed_var r y)
  renewed_term r (App f s ts) = App f s (all_renewed r ts)

  pub all_renewed : (ℕ → Option Var) → Terms → Terms
  all_renewed r Nil = Nil
  all_renewed r (Cons' _ (one-t t end-t) _ (ones-t ts ends-t)) = Cons (renewed_term r t) (all_renewed r ts)

-- a formula with its new variables, where no binder of it binds one of them
abbrev pub renewed : (ℕ → Option Var) → Form → Form
renewed r True = True
renewed r False = False
renewed r (Equal s t) = Equal (renewed_term r s) (renewed_term r t)
renewed r (Atom p ts) = Atom p (all_renewed r ts)
renewed r (Not' _ (one f end)) = Not (renewed r f)
renewed r (And' _ (one f end) _ (one g end)) = And (renewed r f) (renewed r g)
renewed r (Or' _ (one f end) _ (one g end)) = Or (renewed r f) (renewed r g)
renewed r (Imp' _ (one f end) _ (one g end)) = Imp (renewed r f) (renewed r g)
renewed r (Iff' _ (one f end) _ (one g end)) = Iff (renewed r f) (renewed r g)
renewed r (All' x _ (one f end)) = All x (renewed (changed r x.num None) f)
renewed r (Ex' x _ (one f end)) = Ex x (renewed (changed r x.num None) f)
renewed r (All2' p _ (one f end)) = All2 p (renewed r f)
renewed r (Ex2' p _ (one f end)) = Ex2 p (renewed r f)

-- a binder of a variable in the formula has the number
abbrev pub binds : ℕ → Form → Bool
binds n True = false
binds n False = false
binds n (Equal s t) = false
binds n (Atom p ts) = false
binds n (Not' _ (one f end)) = binds n f
binds n (And' _ (one f end) _ (one g end)) = binds n f || binds n g
binds n (Or' _ (one f end) _ (one g end)) = binds n f || binds n g
binds n (Imp' _ (one f end) _ (one g end)) = binds n f || binds n g
binds n (Iff' _ (one f end) _ (one g end)) = binds n f || binds n g
binds n (All' x _ (one f end)) = eqb n x.num || binds n f
binds n (Ex' x _ (one f end)) = eqb n x.num || binds n f
binds n (All2' p _ (one f end)) = binds n f
binds n (Ex2' p _ (one f end)) = binds n f
