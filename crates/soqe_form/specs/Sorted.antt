-- Which formulas are well sorted.
use Rattle.std.specs.Prelude.{ℕ, Bool, true, eqb, ◌&&◌, List, Option}
use Rattle.soqe_term.specs.Sorting.{Sorting, over_var, over_bound, with_sorts, own_sort, sorted_term, sorted_terms}
use Rattle.soqe_form.specs.declared.form.Pred.{Pred}
use Rattle.soqe_form.specs.declared.form.Pred.TheVariants.{Decl, Bound}
use Rattle.soqe_form.specs.declared.form.Form.{Form, True, False, Equal, Atom, Not', And', Or', Imp', Iff', All', Ex', All2', Ex2', end_of-Form as end, more_of-Form as one}

-- the argument sorts of a predicate
abbrev pub pred_sorts : Sorting → Pred → Option (List ℕ)
pred_sorts e (Decl n) = e.declared n
pred_sorts e (Bound n) = e.bound n

-- every term and atom is used as its names are known or bound, and both sides of an equation have one sort
abbrev pub sorted : Sorting → Form → Bool
sorted e True = true
sorted e False = true
sorted e (Equal s t) = sorted_term e s && (sorted_term e t && eqb (own_sort s) (own_sort t))
sorted e (Atom p ts) = with_sorts (λ sorts. sorted_terms e ts sorts) (pred_sorts e p)
sorted e (Not' _ (one f end)) = sorted e f
sorted e (And' _ (one f end) _ (one g end)) = sorted e f && sorted e g
sorted e (Or' _ (one f end) _ (one g end)) = sorted e f && sorted e g
sorted e (Imp' _ (one f end) _ (one g end)) = sorted e f && sorted e g
sorted e (Iff' _ (one f end) _ (one g end)) = sorted e f && sorted e g
sorted e (All' x _ (one f end)) = sorted (over_var e x.num x.sort) f
sorted e (Ex' x _ (one f end)) = sorted (over_var e x.num x.sort) f
sorted e (All2' p _ (one f end)) = sorted (over_bound e p.num p.args) f
sorted e (Ex2' p _ (one f end)) = sorted (over_bound e p.num p.args) f
