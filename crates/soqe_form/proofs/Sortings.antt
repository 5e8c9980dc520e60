-- What the sorting of a formula depends on.
use Rattle.std.proofs.Common.{◌≡◌, ℕ, false, eqb, ◌&&◌, List, Option, Some, refl}
use Rattle.soqe_number.specs.Updates.{changed}
use Rattle.soqe_term.specs.Occurs.{occurs, AgreeOn}
use Rattle.soqe_term.specs.Sorting.{Sorting, over_var, over_bound, with_sorts, own_sort}
use Rattle.soqe_term.proofs.Worlds.{agree_changed, agree_under, agree-left, agree-right, eqb-self}
use Rattle.soqe_term.proofs.Sortings.{known, sorted_term-agree, sorted_terms-agree}
use Rattle.soqe_form.specs.declared.form.Pred.{Pred}
use Rattle.soqe_form.specs.declared.form.Pred.TheVariants.{Decl, Bound}
use Rattle.soqe_form.specs.declared.form.Form.{Form, True, False, Equal, Atom, Not', And', Or', Imp', Iff', All', Ex', All2', Ex2', end_of-Form as end, more_of-Form as one}
use Rattle.soqe_form.specs.Free.{free, free_pred, is_bound}
use Rattle.soqe_form.specs.Sorted.{pred_sorts, sorted}

pred-same : (e : Sorting) (v u : ℕ → Option ℕ) (b c : ℕ → Option (List ℕ)) (p : Pred) → AgreeOn (λ n. is_bound n p) b c → pred_sorts (known e v b) p ≡ pred_sorts (known e u c) p
pred-same e v u b c (Decl n) h = refl
pred-same e v u b c (Bound n) h = h n (eqb-self n)

pub sorted-agree : (e : Sorting) (v u : ℕ → Option ℕ) (b c : ℕ → Option (List ℕ)) (f : Form) → AgreeOn (λ n. free n f) v u → AgreeOn (λ n. free_pred n f) b c → sorted (known e v b) f ≡ sorted (known e u c) f
sorted-agree e v u b c True h k = refl
sorted-agree e v u b c False h k = refl
sorted-agree e v u b c (Equal s t) h k =
    λ i. sorted_term-agree e v u b c s (agree-left (λ n. occurs n s) (λ n. occurs n t) v u h) i && (sorted_term-agree e v u b c t (agree-right (λ n. occurs n s) (λ n. occurs n t) v u h) i && eqb (own_sort s) (own_sort t))
sorted-agree e v u b c (Atom p ts) h k = λ i. with_sorts (λ sorts. sorted_terms-agree e v u b c ts sorts h i) (pred-same e v u b c p k i)
sorted-agree e v u b c (Not' _ (one f end)) h k = sorted-agree e v u b c f h k
sorted-agree e v u b c (And' _ (one f end) _ (one g end)) h k =
    λ i. sorted-agree e v u b c f (agree-left (λ n. free n f) (λ n. free n g) v u h) (agree-left (λ n. free_pred n f) (λ n. free_pred n g) b c k) i && sorted-agree e v u b c g (agree-right (λ n. free n f) (λ n. free n g) v u h) (agree-right (λ n. free_pred n f) (λ n. free_pred n g) b c k) i
sorted-agree e v u b c (Or' _ (one f end) _ (one g end)) h k =
    λ i. sorted-agree e v u b c f (agree-left (λ n. free n f) (λ n. free n g) v u h) (agree-left (λ n. free_pred n f) (λ n. free_pred n g) b c k) i && sorted-agree e v u b c g (agree-right (λ n. free n f) (λ n. free n g) v u h) (agree-right (λ n. free_pred n f) (λ n. free_pred n g) b c k) i
sorted-agree e v u b c (Imp' _ (one f end) _ (one g end)) h k =
    λ i. sorted-agree e v u b c f (agree-left (λ n. free n f) (λ n. free n g) v u h) (agree-left (λ n. free_pred n f) (λ n. free_pred n g) b c k) i && sorted-agree e v u b c g (agree-right (λ n. free n f) (λ n. free n g) v u h) (agree-right (λ n. free_pred n f) (λ n. free_pred n g) b c k) i
sorted-agree e v u b c (Iff' _ (one f end) _ (one g end)) h k =
    λ i. sorted-agree e v u b c f (agree-left (λ n. free n f) (λ n. free n g) v u h) (agree-left (λ n. free_pred n f) (λ n. free_pred n g) b c k) i && sorted-agree e v u b c g (agree-right (λ n. free n f) (λ n. free n g) v u h) (agree-right (λ n. free_pred n f) (λ n. free_pred n g) b c k) i
sorted-agree e v u b c (All' x _ (one f end)) h k = sorted-agree e (changed v x.num (Some x.sort)) (changed u x.num (Some x.sort)) b c f (agree_under (λ n. free n f) v u x.num (Some x.sort) h) k
sorted-agree e v u b c (Ex' x _ (one f end)) h k = sorted-agree e (changed v x.num (Some x.sort)) (changed u x.num (Some x.sort)) b c f (agree_under (λ n. free n f) v u x.num (Some x.sort) h) k
sorted-agree e v u b c (All2' p _ (one f end)) h k = sorted-agree e v u (changed b p.num (Some p.args)) (changed c p.num (Some p.args)) f h (agree_under (λ n. free_pred n f) b c p.num (Some p.args) k)
sorted-agree e v u b c (Ex2' p _ (one f end)) h k = sorted-agree e v u (changed b p.num (Some p.args)) (changed c p.num (Some p.args)) f h (agree_under (λ n. free_pred n f) b c p.num (Some p.args) k)

-- a variable and a predicate that are not free do not matter
pub sorted-unused : (e : Sorting) (x s : ℕ) (f : Form) → free x f ≡ false → sorted (over_var e x s) f ≡ sorted e f
sorted-unused e x s f h = sorted-agree e (changed e.variable x (Some s)) e.variable e.bound e.bound f (agree_changed (λ n. free n f) e.variable x (Some s) h) (λ n o. refl)

pub sorted-lacks : (e : Sorting) (m : ℕ) (sorts : List ℕ) (f : Form) → free_pred m f ≡ false → sorted (over_bound e m sorts) f ≡ sorted e f
sorted-lacks e m sorts f h = sorted-agree e e.variable e.variable (changed e.bound m (Some sorts)) e.bound f (λ n o. refl) (agree_changed (λ n. free_pred n f) e.bound m (Some sorts) h)
