-- Truth depends on the free names alone.
use Rattle.std.proofs.Common.{◌≡◌, ℕ, Bool, false, eqb, not, ◌||◌, ◌&&◌, map, List, refl, ◌∙◌, ap}
use Rattle.soqe_term.specs.World.{World, with_var, with_bound}
use Rattle.soqe_number.specs.Updates.{changed}
use Rattle.soqe_term.specs.Value.{values}
use Rattle.soqe_term.specs.Occurs.{occurs, AgreeOn}
use Rattle.soqe_number.specs.Finite.{every, some, every_list, some_list, product, entry}
use Rattle.soqe_term.proofs.Worlds.{reading, value-agree, values-agree, agree_changed, agree_under, agree-left, agree-right, eqb-self}
use Rattle.soqe_form.specs.declared.form.Pred.{Pred}
use Rattle.soqe_form.specs.declared.form.Pred.TheVariants.{Decl, Bound}
use Rattle.soqe_form.specs.declared.form.Form.{Form, True, False, Equal, Atom, Not', And', Or', Imp', Iff', All', Ex', All2', Ex2', end_of-Form as end, more_of-Form as one}
use Rattle.soqe_form.specs.Truth.{truth, holds, alike}
use Rattle.soqe_form.specs.Free.{free, free_pred, is_bound}

holds-agree : (w : World) (e d : ℕ → ℕ) (b c : ℕ → List ℕ → Bool) (p : Pred) (xs : List ℕ) → AgreeOn (λ n. is_bound n p) b c → holds (reading w e b) p xs ≡ holds (reading w d c) p xs
holds-agree w e d b c (Decl n) xs h = refl
holds-agree w e d b c (Bound n) xs h = λ i. h n (eqb-self n) i xs

pub truth-agree : (w : World) (e d : ℕ → ℕ) (b c : ℕ → List ℕ → Bool) (f : Form) → AgreeOn (λ n. free n f) e d → AgreeOn (λ n. free_pred n f) b c → truth (reading w e b) f ≡ truth (reading w d c) f
truth-agree w e d b c True h k = refl
truth-agree w e d b c False h k = refl
truth-agree w e d b c (Equal s t) h k =
    λ i. eqb (value-agree w e d b c s (agree-left (λ n. occurs n s) (λ n. occurs n t) e d h) i) (value-agree w e d b c t (agree-right (λ n. occurs n s) (λ n. occurs n t) e d h) i)
truth-agree w e d b c (Atom p ts) h k =
    ap (holds (reading w e b) p) (values-agree w e d b c ts h) ∙ holds-agree w e d b c p (values (reading w d c) ts) k
truth-agree w e d b c (Not' _ (one f end)) h k = ap not (truth-agree w e d b c f h k)
truth-agree w e d b c (And' _ (one f end) _ (one g end)) h k =
    λ i. truth-agree w e d b c f (agree-left (λ n. free n f) (λ n. free n g) e d h) (agree-left (λ n. free_pred n f) (λ n. free_pred n g) b c k) i && truth-agree w e d b c g (agree-right (λ n. free n f) (λ n. free n g) e d h) (agree-right (λ n. free_pred n f) (λ n. free_pred n g) b c k) i
truth-agree w e d b c (Or' _ (one f end) _ (one g end)) h k =
    λ i. truth-agree w e d b c f (agree-left (λ n. free n f) (λ n. free n g) e d h) (agree-left (λ n. free_pred n f) (λ n. free_pred n g) b c k) i || truth-agree w e d b c g (agree-right (λ n. free n f) (λ n. free n g) e d h) (agree-right (λ n. free_pred n f) (λ n. free_pred n g) b c k) i
truth-agree w e d b c (Imp' _ (one f end) _ (one g end)) h k =
    λ i. not (truth-agree w e d b c f (agree-left (λ n. free n f) (λ n. free n g) e d h) (agree-left (λ n. free_pred n f) (λ n. free_pred n g) b c k) i) || truth-agree w e d b c g (agree-right (λ n. free n f) (λ n. free n g) e d h) (agree-right (λ n. free_pred n f) (λ n. free_pred n g) b c k) i
truth-agree w e d b c (Iff' _ (one f end) _ (one g end)) h k =
    λ i. alike (truth-agree w e d b c f (agree-left (λ n. free n f) (λ n. free n g) e d h) (agree-left (λ n. free_pred n f) (λ n. free_pred n g) b c k) i) (truth-agree w e d b c g (agree-right (λ n. free n f) (λ n. free n g) e d h) (agree-right (λ n. free_pred n f) (λ n. free_pred n g) b c k) i)
truth-agree w e d b c (All' x _ (one f end)) h k =
    λ i. every (w.size x.sort) (λ a. truth-agree w (changed e x.num a) (changed d x.num a) b c f (agree_under (λ n. free n f) e d x.num a h) k i)
truth-agree w e d b c (Ex' x _ (one f end)) h k =
    λ i. some (w.size x.sort) (λ a. truth-agree w (changed e x.num a) (changed d x.num a) b c f (agree_under (λ n. free n f) e d x.num a h) k i)
truth-agree w e d b c (All2' p _ (one f end)) h k =
    λ i. every_list (product (map w.size p.args)) (λ t. truth-agree w e d (changed b p.num (entry (map w.size p.args) t)) (changed c p.num (entry (map w.size p.args) t)) f h (agree_under (λ n. free_pred n f) b c p.num (entry (map w.size p.args) t) k) i)
truth-agree w e d b c (Ex2' p _ (one f end)) h k =
    λ i. some_list (product (map w.size p.args)) (λ t. truth-agree w e d (changed b p.num (entry (map w.size p.args) t)) (changed c p.num (entry (map w.size p.args) t)) f h (agree_under (λ n. free_pred n f) b c p.num (entry (map w.size p.args) t) k) i)

-- an element that a formula doesn't use
pub truth-unused : (w : World) (x a : ℕ) (f : Form) → free x f ≡ false → truth (with_var w x a) f ≡ truth w f
truth-unused w x a f h =
    truth-agree w (changed w.element x a) w.element w.bound w.bound f (agree_changed (λ n. free n f) w.element x a h) (λ n o. refl)

-- a table of a bound predicate that a formula doesn't use
pub truth-lacks : (w : World) (p : ℕ) (t : List ℕ → Bool) (f : Form) → free_pred p f ≡ false → truth (with_bound w p t) f ≡ truth w f
truth-lacks w p t f h =
    truth-agree w w.element w.element (changed w.bound p t) w.bound f (λ n o. refl) (agree_changed (λ n. free_pred n f) w.bound p t h)
