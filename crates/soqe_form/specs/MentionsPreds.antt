-- The numbers of bound predicates that stand in a formula.
use Rattle.std.specs.Prelude.{ℕ, suc, max, eqb, Bool, false, ◌||◌}
use Rattle.soqe_form.specs.declared.form.Pred.{Pred}
use Rattle.soqe_form.specs.declared.form.Pred.TheVariants.{Decl, Bound}
use Rattle.soqe_form.specs.declared.form.Form.{Form, True, False, Equal, Atom, Not', And', Or', Imp', Iff', All', Ex', All2', Ex2', end_of-Form as end, more_of-Form as one}
use Rattle.soqe_form.specs.Free.{is_bound}

-- the number is that of a bound predicate, or of a binder of a predicate
abbrev pub mentions_pred : ℕ → Form → Bool
mentions_pred n True = false
mentions_pred n False = false
mentions_pred n (Equal s t) = false
mentions_pred n (Atom p ts) = is_bound n p
mentions_pred n (Not' _ (one f end)) = mentions_pred n f
mentions_pred n (And' _ (one f end) _ (one g end)) = mentions_pred n f || mentions_pred n g
mentions_pred n (Or' _ (one f end) _ (one g end)) = mentions_pred n f || mentions_pred n g
mentions_pred n (Imp' _ (one f end) _ (one g end)) = mentions_pred n f || mentions_pred n g
mentions_pred n (Iff' _ (one f end) _ (one g end)) = mentions_pred n f || mentions_pred n g
mentions_pred n (All' x _ (one f end)) = mentions_pred n f
mentions_pred n (Ex' x _ (one f end)) = mentions_pred n f
mentions_pred n (All2' p _ (one f end)) = eqb n p.num || mentions_pred n f
mentions_pred n (Ex2' p _ (one f end)) = eqb n p.num || mentions_pred n f

-- every number from here on is not that of the predicate, if it is bound
abbrev pub pred_above : Pred → ℕ
pred_above (Decl k) = 0
pred_above (Bound k) = suc k

-- every number from here on is that of no bound predicate and of no binder of one
abbrev pub preds_above : Form → ℕ
preds_above True = 0
preds_above False = 0
preds_above (Equal s t) = 0
preds_above (Atom p ts) = pred_above p
preds_above (Not' _ (one f end)) = preds_above f
preds_above (And' _ (one f end) _ (one g end)) = max (preds_above f) (preds_above g)
preds_above (Or' _ (one f end) _ (one g end)) = max (preds_above f) (preds_above g)
preds_above (Imp' _ (one f end) _ (one g end)) = max (preds_above f) (preds_above g)
preds_above (Iff' _ (one f end) _ (one g end)) = max (preds_above f) (preds_above g)
preds_above (All' x _ (one f end)) = preds_above f
preds_above (Ex' x _ (one f end)) = preds_above f
preds_above (All2' p _ (one f end)) = max (suc p.num) (preds_above f)
preds_above (Ex2' p _ (one f end)) = max (suc p.num) (preds_above f)
