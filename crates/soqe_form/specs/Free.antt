-- The free names of a formula.
use Rattle.std.specs.Prelude.{ℕ, eqb, Bool, false, ◌||◌, cond}
use Rattle.soqe_term.specs.Occurs.{occurs, occurs_any}
use Rattle.soqe_form.specs.declared.form.Pred.{Pred}
use Rattle.soqe_form.specs.declared.form.Pred.TheVariants.{Decl, Bound}
use Rattle.soqe_form.specs.declared.form.Form.{Form, True, False, Equal, Atom, Not', And', Or', Imp', Iff', All', Ex', All2', Ex2', end_of-Form as end, more_of-Form as one}

-- the variable n has an occurrence that no binder in the formula binds
abbrev pub free : ℕ → Form → Bool
free n True = false
free n False = false
free n (Equal s t) = occurs n s || occurs n t
free n (Atom p ts) = occurs_any n ts
free n (Not' _ (one f end)) = free n f
free n (And' _ (one f end) _ (one g end)) = free n f || free n g
free n (Or' _ (one f end) _ (one g end)) = free n f || free n g
free n (Imp' _ (one f end) _ (one g end)) = free n f || free n g
free n (Iff' _ (one f end) _ (one g end)) = free n f || free n g
free n (All' x _ (one f end)) = cond (eqb n x.num) false (free n f)
free n (Ex' x _ (one f end)) = cond (eqb n x.num) false (free n f)
free n (All2' p _ (one f end)) = free n f
free n (Ex2' p _ (one f end)) = free n f

-- the predicate is the bound one with the number n
abbrev pub is_bound : ℕ → Pred → Bool
is_bound n (Decl m) = false
is_bound n (Bound m) = eqb n m

-- the bound predicate n has an occurrence that no binder in the formula binds
abbrev pub free_pred : ℕ → Form → Bool
free_pred n True = false
free_pred n False = false
free_pred n (Equal s t) = false
free_pred n (Atom p ts) = is_bound n p
free_pred n (Not' _ (one f end)) = free_pred n f
free_pred n (And' _ (one f end) _ (one g end)) = free_pred n f || free_pred n g
free_pred n (Or' _ (one f end) _ (one g end)) = free_pred n f || free_pred n g
free_pred n (Imp' _ (one f end) _ (one g end)) = free_pred n f || free_pred n g
free_pred n (Iff' _ (one f end) _ (one g end)) = free_pred n f || free_pred n g
free_pred n (All' x _ (one f end)) = free_pred n f
free_pred n (Ex' x _ (one f end)) = free_pred n f
free_pred n (All2' p _ (one f end)) = cond (eqb n p.num) false (free_pred n f)
free_pred n (Ex2' p _ (one f end)) = cond (eqb n p.num) false (free_pred n f)
