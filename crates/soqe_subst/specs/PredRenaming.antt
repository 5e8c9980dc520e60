-- Another number in place of a bound predicate's.
use Rattle.std.specs.Prelude.{ℕ, eqb, cond}
use Rattle.soqe_form.specs.declared.form.Pred.{Pred}
use Rattle.soqe_form.specs.declared.form.Pred.TheVariants.{Decl, Bound}
use Rattle.soqe_form.specs.declared.form.PVar.{PVar}
use Rattle.soqe_form.specs.declared.form.Form.{Form, True, False, Equal, Atom, Not, Not', And, And', Or, Or', Imp, Imp', Iff, Iff', All, All', Ex, Ex', All2, All2', Ex2, Ex2', end_of-Form as end, more_of-Form as one}

-- the bound predicate n in place of the bound predicate m
abbrev pub exchanged : ℕ → ℕ → Pred → Pred
exchanged m n (Decl k) = Decl k
exchanged m n (Bound k) = Bound (cond (eqb k m) n k)

-- the bound predicate n in place of each free occurrence of the bound predicate m, where no binder of the formula binds n
abbrev pub renamed_pred : ℕ → ℕ → Form → Form
renamed_pred m n True = True
renamed_pred m n False = False
renamed_pred m n (Equal s t) = Equal s t
renamed_pred m n (Atom p ts) = Atom (exchanged m n p) ts
renamed_pred m n (Not' _ (one f end)) = Not (renamed_pred m n f)
renamed_pred m n (And' _ (one f end) _ (one g end)) = And (renamed_pred m n f) (renamed_pred m n g)
renamed_pred m n (Or' _ (one f end) _ (one g end)) = Or (renamed_pred m n f) (renamed_pred m n g)
renamed_pred m n (Imp' _ (one f end) _ (one g end)) = Imp (renamed_pred m n f) (renamed_pred m n g)
renamed_pred m n (Iff' _ (one f end) _ (one g end)) = Iff (renamed_pred m n f) (renamed_pred m n g)
renamed_pred m n (All' x _ (one f end)) = All x (renamed_pred m n f)
renamed_pred m n (Ex' x _ (one f end)) = Ex x (renamed_pred m n f)
renamed_pred m n (All2' p _ (one f end)) = All2 p (cond (eqb p.num m) f (renamed_pred m n f))
renamed_pred m n (Ex2' p _ (one f end)) = Ex2 p (cond (eqb p.num m) f (renamed_pred m n f))

-- the predicate p under the number n
abbrev pub renumbered : PVar → ℕ → PVar
renumbered p n = record p { num = n }
