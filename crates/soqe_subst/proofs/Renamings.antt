-- A variable put in place of another one, whose number stands nowhere in the formula.
use Rattle.std.proofs.Common.{◌≡◌, ℕ, suc, max, ◌<◌, ◌≤◌, Bool, true, false, cond, eqb, not, ◌||◌, ◌&&◌, map, List, refl, sym, ◌∙◌, ap, arith}
use Rattle.std.proofs.lemmas.Bool.{eqb-true, ne_eqb, or_from}
use Rattle.soqe_term.specs.declared.term.Var.{Var}
use Rattle.soqe_term.specs.declared.term.Term.{Var as var}
use Rattle.soqe_term.specs.World.{World, with_var, with_bound}
use Rattle.soqe_term.specs.Value.{values}
use Rattle.soqe_term.specs.Occurs.{occurs}
use Rattle.soqe_number.specs.Finite.{every, some, every_list, some_list, product, entry}
use Rattle.soqe_number.proofs.Choices.{by_cases, or_none_first, or_none_second}
use Rattle.soqe_term.proofs.Worlds.{changed-commutes, changed-again, changed-off, occurs-above, occurs_any-above}
use Rattle.soqe_term.proofs.Replaced.{value-replaced, values-replaced}
use Rattle.soqe_form.specs.declared.form.Form.{Form, True, False, Equal, Atom, Not', And', Or', Imp', Iff', All', Ex', All2', Ex2', end_of-Form as end, more_of-Form as one}
use Rattle.soqe_form.specs.declared.form.Pred.{Pred}
use Rattle.soqe_form.specs.declared.form.Pred.TheVariants.{Decl, Bound}
use Rattle.soqe_form.specs.Boxes.{boxes}
use Rattle.soqe_form.specs.Truth.{truth, holds, alike}
use Rattle.soqe_form.specs.Free.{free}
use Rattle.soqe_form.specs.Mentions.{mentions, form_above, depth}
use Rattle.soqe_form.proofs.Numbers.{eqb-swap}
use Rattle.soqe_subst.specs.Substitution.{renamed}

-- two changes at different numbers, in a world
pub with_var-commutes : (w : World) (x y u v : ℕ) → eqb x y ≡ false → with_var (with_var w x u) y v ≡ with_var (with_var w y v) x u
with_var-commutes w x y u v h = λ i. record w { element = changed-commutes w.element x y u v h i }

-- a later change hides an earlier one
pub with_var-again : (w : World) (x y u v : ℕ) → eqb y x ≡ true → with_var (with_var w x u) y v ≡ with_var w y v
with_var-again w x y u v h =
    ap (λ n. with_var (with_var w n u) y v) (sym (eqb-true y x h)) ∙ (λ i. record w { element = changed-again w.element y u v i })

-- ---- truth

-- a binder below which the variable is replaced, or which binds it
below_binder : (w : World) (y u : ℕ) (x : Var) (f g : Form) → ((a : ℕ) → truth (with_var w x.num a) g ≡ truth (with_var (with_var w x.num a) y u) f) → (a : ℕ) → truth (with_var w x.num a) (cond (eqb x.num y) f g) ≡ truth (with_var (with_var w y u) x.num a) f
below_binder w y u x f g h a =
    by_cases (λ r. truth (with_var w x.num a) r ≡ truth (with_var (with_var w y u) x.num a) f) (eqb x.num y) f g
    (λ e. ap (λ v. truth v f) (sym (with_var-again w y x.num u a e)))
    (λ e. h a ∙ ap (λ v. truth v f) (sym (with_var-commutes w y x.num u a (eqb-swap x.num y e))))

holds-element : (w : World) (x a : ℕ) (p : Pred) (xs : List ℕ) → holds (with_var w x a) p xs ≡ holds w p xs
holds-element w x a (Decl n) xs = refl
holds-element w x a (Bound n) xs = refl

pub truth-renamed : (w : World) (y : ℕ) (z : Var) (f : Form) → mentions z.num f ≡ false → truth w (renamed y z f) ≡ truth (with_var w y (w.element z.num)) f
unfolding boxes
truth-renamed w y z True h = refl
truth-renamed w y z False h = refl
truth-renamed w y z (Equal s t) h = λ i. eqb (value-replaced w y (var z) s i) (value-replaced w y (var z) t i)
truth-renamed w y z (Atom p ts) h =
    ap (holds w p) (values-replaced w y (var z) ts) ∙ sym (holds-element w y (w.element z.num) p (values (with_var w y (w.element z.num)) ts))
truth-renamed w y z (Not' _ (one f end)) h = ap not (truth-renamed w y z f h)
truth-renamed w y z (And' _ (one f end) _ (one g end)) h =
    λ i. truth-renamed w y z f (or_none_first (mentions z.num f) (mentions z.num g) h) i && truth-renamed w y z g (or_none_second (mentions z.num f) (mentions z.num g) h) i
truth-renamed w y z (Or' _ (one f end) _ (one g end)) h =
    λ i. truth-renamed w y z f (or_none_first (mentions z.num f) (mentions z.num g) h) i || truth-renamed w y z g (or_none_second (mentions z.num f) (mentions z.num g) h) i
truth-renamed w y z (Imp' _ (one f end) _ (one g end)) h =
    λ i. not (truth-renamed w y z f (or_none_first (mentions z.num f) (mentions z.num g) h) i) || truth-renamed w y z g (or_none_second (mentions z.num f) (mentions z.num g) h) i
truth-renamed w y z (Iff' _ (one f end) _ (one g end)) h =
    λ i. alike (truth-renamed w y z f (or_none_first (mentions z.num f) (mentions z.num g) h) i) (truth-renamed w y z g (or_none_second (mentions z.num f) (mentions z.num g) h) i)
truth-renamed w y z (All' x _ (one f end)) h =
    λ i. every (w.size x.sort) (λ a. below_binder w y (w.element z.num) x f (renamed y z f)
    (λ a. truth-renamed (with_var w x.num a) y z f (or_none_second (eqb z.num x.num) (mentions z.num f) h)
    ∙ ap (λ v. truth (with_var (with_var w x.num a) y v) f) (changed-off w.element x.num z.num a (or_none_first (eqb z.num x.num) (mentions z.num f) h))) a i)
truth-renamed w y z (Ex' x _ (one f end)) h =
    λ i. some (w.size x.sort) (λ a. below_binder w y (w.element z.num) x f (renamed y z f)
    (λ a. truth-renamed (with_var w x.num a) y z f (or_none_second (eqb z.num x.num) (mentions z.num f) h)
    ∙ ap (λ v. truth (with_var (with_var w x.num a) y v) f) (changed-off w.element x.num z.num a (or_none_first (eqb z.num x.num) (mentions z.num f) h))) a i)
truth-renamed w y z (All2' p _ (one f end)) h =
    λ i. every_list (product (map w.size p.args)) (λ t. truth-renamed (with_bound w p.num (entry (map w.size p.args) t)) y z f h i)
truth-renamed w y z (Ex2' p _ (one f end)) h =
    λ i. some_list (product (map w.size p.args)) (λ t. truth-renamed (with_bound w p.num (entry (map w.size p.args) t)) y z f h i)

-- ---- depth

same_depth_below : (b : Bool) (f g : Form) → depth g ≡ depth f → depth (cond b f g) ≡ depth f
same_depth_below true f g h = refl
same_depth_below false f g h = h

pub depth-renamed : (y : ℕ) (z : Var) (f : Form) → depth (renamed y z f) ≡ depth f
unfolding boxes
depth-renamed y z True = refl
depth-renamed y z False = refl
depth-renamed y z (Equal s t) = refl
depth-renamed y z (Atom p ts) = refl
depth-renamed y z (Not' _ (one f end)) = ap suc (depth-renamed y z f)
depth-renamed y z (And' _ (one f end) _ (one g end)) = λ i. suc (max (depth-renamed y z f i) (depth-renamed y z g i))
depth-renamed y z (Or' _ (one f end) _ (one g end)) = λ i. suc (max (depth-renamed y z f i) (depth-renamed y z g i))
depth-renamed y z (Imp' _ (one f end) _ (one g end)) = λ i. suc (max (depth-renamed y z f i) (depth-renamed y z g i))
depth-renamed y z (Iff' _ (one f end) _ (one g end)) = λ i. suc (max (depth-renamed y z f i) (depth-renamed y z g i))
depth-renamed y z (All' x _ (one f end)) = ap suc (same_depth_below (eqb x.num y) f (renamed y z f) (depth-renamed y z f))
depth-renamed y z (Ex' x _ (one f end)) = ap suc (same_depth_below (eqb x.num y) f (renamed y z f) (depth-renamed y z f))
depth-renamed y z (All2' p _ (one f end)) = ap suc (depth-renamed y z f)
depth-renamed y z (Ex2' p _ (one f end)) = ap suc (depth-renamed y z f)

pub depth-positive : (f : Form) → 0 < depth f
depth-positive True = omega arith
depth-positive False = omega arith
depth-positive (Equal s t) = omega arith
depth-positive (Atom p ts) = omega arith
depth-positive (Not' _ (one f end)) = omega arith
depth-positive (And' _ (one f end) _ (one g end)) = omega arith
depth-positive (Or' _ (one f end) _ (one g end)) = omega arith
depth-positive (Imp' _ (one f end) _ (one g end)) = omega arith
depth-positive (Iff' _ (one f end) _ (one g end)) = omega arith
depth-positive (All' y _ (one f end)) = omega arith
depth-positive (Ex' y _ (one f end)) = omega arith
depth-positive (All2' p _ (one f end)) = omega arith
depth-positive (Ex2' p _ (one f end)) = omega arith

-- ---- free and mentioned numbers

none_below : (b q : Bool) → q ≡ false → cond b false q ≡ false
none_below true q h = refl
none_below false q h = h

pub free-mentions : (n : ℕ) (f : Form) → mentions n f ≡ false → free n f ≡ false
free-mentions n True h = h
free-mentions n False h = h
free-mentions n (Equal s t) h = h
free-mentions n (Atom p ts) h = h
free-mentions n (Not' _ (one f end)) h = free-mentions n f h
free-mentions n (And' _ (one f end) _ (one g end)) h = or_from (free n f) (free n g) (free-mentions n f (or_none_first (mentions n f) (mentions n g) h)) (free-mentions n g (or_none_second (mentions n f) (mentions n g) h))
free-mentions n (Or' _ (one f end) _ (one g end)) h = or_from (free n f) (free n g) (free-mentions n f (or_none_first (mentions n f) (mentions n g) h)) (free-mentions n g (or_none_second (mentions n f) (mentions n g) h))
free-mentions n (Imp' _ (one f end) _ (one g end)) h = or_from (free n f) (free n g) (free-mentions n f (or_none_first (mentions n f) (mentions n g) h)) (free-mentions n g (or_none_second (mentions n f) (mentions n g) h))
free-mentions n (Iff' _ (one f end) _ (one g end)) h = or_from (free n f) (free n g) (free-mentions n f (or_none_first (mentions n f) (mentions n g) h)) (free-mentions n g (or_none_second (mentions n f) (mentions n g) h))
free-mentions n (All' y _ (one f end)) h = none_below (eqb n y.num) (free n f) (free-mentions n f (or_none_second (eqb n y.num) (mentions n f) h))
free-mentions n (Ex' y _ (one f end)) h = none_below (eqb n y.num) (free n f) (free-mentions n f (or_none_second (eqb n y.num) (mentions n f) h))
free-mentions n (All2' p _ (one f end)) h = free-mentions n f h
free-mentions n (Ex2' p _ (one f end)) h = free-mentions n f h

pub mentions-above : (n : ℕ) (f : Form) → form_above f ≤ n → mentions n f ≡ false
mentions-above n True h = refl
mentions-above n False h = refl
mentions-above n (Equal s t) h = or_from (occurs n s) (occurs n t) (occurs-above n s (omega arith)) (occurs-above n t (omega arith))
mentions-above n (Atom p ts) h = occurs_any-above n ts h
mentions-above n (Not' _ (one f end)) h = mentions-above n f h
mentions-above n (And' _ (one f end) _ (one g end)) h = or_from (mentions n f) (mentions n g) (mentions-above n f (omega arith)) (mentions-above n g (omega arith))
mentions-above n (Or' _ (one f end) _ (one g end)) h = or_from (mentions n f) (mentions n g) (mentions-above n f (omega arith)) (mentions-above n g (omega arith))
mentions-above n (Imp' _ (one f end) _ (one g end)) h = or_from (mentions n f) (mentions n g) (mentions-above n f (omega arith)) (mentions-above n g (omega arith))
mentions-above n (Iff' _ (one f end) _ (one g end)) h = or_from (mentions n f) (mentions n g) (mentions-above n f (omega arith)) (mentions-above n g (omega arith))
mentions-above n (All' y _ (one f end)) h = or_from (eqb n y.num) (mentions n f) (ne_eqb n y.num (omega arith)) (mentions-above n f (omega arith))
mentions-above n (Ex' y _ (one f end)) h = or_from (eqb n y.num) (mentions n f) (ne_eqb n y.num (omega arith)) (mentions-above n f (omega arith))
mentions-above n (All2' p _ (one f end)) h = mentions-above n f h
mentions-above n (Ex2' p _ (one f end)) h = mentions-above n f h
