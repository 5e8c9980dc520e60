-- Worlds that match give one truth to well-sorted formulas.
use Rattle.std.proofs.Common.{◌≡◌, ℕ, true, eqb, not, ◌||◌, ◌&&◌, map, List, Some, refl, ◌∙◌, ap}
use Rattle.soqe_term.specs.World.{World, with_var, with_bound}
use Rattle.soqe_term.specs.Value.{values}
use Rattle.soqe_number.specs.Finite.{every, some, every_list, some_list, product, entry}
use Rattle.soqe_term.specs.Sorting.{Sorting, over_var, over_bound, own_sort, sorted_term, sorted_terms}
use Rattle.soqe_term.specs.Fits.{Fits, EqualIn, Matches}
use Rattle.soqe_number.proofs.Choices.{and_first, and_second}
use Rattle.soqe_number.proofs.Enumerations.{every-same, some-same}
use Rattle.soqe_term.proofs.Values.{sorts-of, values-in, value-match, values-match, fits-var, fits-bound, matches-var, matches-bound}
use Rattle.soqe_form.specs.declared.form.Pred.{Pred}
use Rattle.soqe_form.specs.declared.form.Pred.TheVariants.{Decl, Bound}
use Rattle.soqe_form.specs.declared.form.Form.{Form, True, False, Equal, Atom, Not', And', Or', Imp', Iff', All', Ex', All2', Ex2', end_of-Form as end, more_of-Form as one}
use Rattle.soqe_form.specs.Truth.{truth, holds, alike}
use Rattle.soqe_form.specs.Sorted.{pred_sorts, sorted}

pub equal_holds : (w v : World) (e : Sorting) (p : Pred) (sorts : List ℕ) → Matches e w v → pred_sorts e p ≡ Some sorts → EqualIn w sorts (holds w p) (holds v p)
equal_holds w v e (Decl n) sorts h q = h.declared n sorts q
equal_holds w v e (Bound n) sorts h q = h.bound n sorts q

pub truth-match : (w v : World) (e : Sorting) (f : Form) → Fits w e → Matches e w v → sorted e f ≡ true → truth w f ≡ truth v f
truth-match w v e True h m o = refl
truth-match w v e False h m o = refl
truth-match w v e (Equal s t) h m o =
    let rest : (sorted_term e t && eqb (own_sort s) (own_sort t)) ≡ true = and_second (sorted_term e s) (sorted_term e t && eqb (own_sort s) (own_sort t)) o in
    λ i. eqb (value-match w v e s h m (and_first (sorted_term e s) (sorted_term e t && eqb (own_sort s) (own_sort t)) o) i) (value-match w v e t h m (and_first (sorted_term e t) (eqb (own_sort s) (own_sort t)) rest) i)
truth-match w v e (Atom p ts) h m o =
    let k = sorts-of (λ sorts. sorted_terms e ts sorts) (pred_sorts e p) o in
    equal_holds w v e p k.sorts m k.is (values w ts) (values-in w e ts k.sorts h k.pass) ∙ ap (holds v p) (values-match w v e ts k.sorts h m k.pass)
truth-match w v e (Not' _ (one f end)) h m o = ap not (truth-match w v e f h m o)
truth-match w v e (And' _ (one f end) _ (one g end)) h m o =
    λ i. truth-match w v e f h m (and_first (sorted e f) (sorted e g) o) i && truth-match w v e g h m (and_second (sorted e f) (sorted e g) o) i
truth-match w v e (Or' _ (one f end) _ (one g end)) h m o =
    λ i. truth-match w v e f h m (and_first (sorted e f) (sorted e g) o) i || truth-match w v e g h m (and_second (sorted e f) (sorted e g) o) i
truth-match w v e (Imp' _ (one f end) _ (one g end)) h m o =
    λ i. not (truth-match w v e f h m (and_first (sorted e f) (sorted e g) o) i) || truth-match w v e g h m (and_second (sorted e f) (sorted e g) o) i
truth-match w v e (Iff' _ (one f end) _ (one g end)) h m o =
    λ i. alike (truth-match w v e f h m (and_first (sorted e f) (sorted e g) o) i) (truth-match w v e g h m (and_second (sorted e f) (sorted e g) o) i)
truth-match w v e (All' x _ (one f end)) h m o =
    every-same (w.size x.sort) (λ a. truth (with_var w x.num a) f) (λ a. truth (with_var v x.num a) f)
    (λ a l. truth-match (with_var w x.num a) (with_var v x.num a) (over_var e x.num x.sort) f (fits-var w e x.num x.sort a l h) (matches-var w v e x.num x.sort a m) o)
    ∙ ap (λ z. every (z x.sort) (λ a. truth (with_var v x.num a) f)) m.size
truth-match w v e (Ex' x _ (one f end)) h m o =
    some-same (w.size x.sort) (λ a. truth (with_var w x.num a) f) (λ a. truth (with_var v x.num a) f)
    (λ a l. truth-match (with_var w x.num a) (with_var v x.num a) (over_var e x.num x.sort) f (fits-var w e x.num x.sort a l h) (matches-var w v e x.num x.sort a m) o)
    ∙ ap (λ z. some (z x.sort) (λ a. truth (with_var v x.num a) f)) m.size
truth-match w v e (All2' p _ (one f end)) h m o =
    (λ i. every_list (product (map w.size p.args)) (λ t. truth-match (with_bound w p.num (entry (map w.size p.args) t)) (with_bound v p.num (entry (map w.size p.args) t)) (over_bound e p.num p.args) f
    (fits-bound w e p.num p.args (entry (map w.size p.args) t) h) (matches-bound w v e p.num p.args (entry (map w.size p.args) t) m) o i))
    ∙ ap (λ z. every_list (product (map z p.args)) (λ t. truth (with_bound v p.num (entry (map z p.args) t)) f)) m.size
truth-match w v e (Ex2' p _ (one f end)) h m o =
    (λ i. some_list (product (map w.size p.args)) (λ t. truth-match (with_bound w p.num (entry (map w.size p.args) t)) (with_bound v p.num (entry (map w.size p.args) t)) (over_bound e p.num p.args) f
    (fits-bound w e p.num p.args (entry (map w.size p.args) t) h) (matches-bound w v e p.num p.args (entry (map w.size p.args) t) m) o i))
    ∙ ap (λ z. some_list (product (map z p.args)) (λ t. truth (with_bound v p.num (entry (map z p.args) t)) f)) m.size
