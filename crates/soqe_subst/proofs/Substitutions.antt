-- What capture-free substitution does to truth.
use Rattle.std.proofs.Common.{◌≡◌, ℕ, zero, suc, max, ◌+◌, ◌<◌, ◌≤◌, Bool, true, false, cond, eqb, not, ◌||◌, ◌&&◌, map, List, refl, sym, ◌∙◌, ap, arith}
use Rattle.std.proofs.lemmas.Bool.{or_from}
use Rattle.soqe_term.specs.declared.bindings.Bound.{Bound as Pair}
use Rattle.soqe_term.specs.declared.term.Var.{Var}
use Rattle.soqe_term.specs.World.{World, with_var, with_bound}
use Rattle.soqe_number.specs.Updates.{changed}
use Rattle.soqe_term.specs.Value.{values}
use Rattle.soqe_number.specs.Finite.{every, some, every_list, some_list, product, entry}
use Rattle.soqe_term.specs.Bindings.{assigned, with_binding}
use Rattle.soqe_number.proofs.Choices.{bool_cases, or_none_first, or_none_second}
use Rattle.soqe_term.proofs.Worlds.{reading, changed-at, agree_changed, first_from-passes}
use Rattle.soqe_term.proofs.Replaced.{value-bound_in, values-bound_in}
use Rattle.soqe_form.specs.declared.form.Form.{Form, True, False, Equal, Atom, Not', And', Or', Imp', Iff', All', Ex', All2', Ex2', end_of-Form as end, more_of-Form as one}
use Rattle.soqe_form.specs.declared.form.Pred.{Pred}
use Rattle.soqe_form.specs.declared.form.Pred.TheVariants.{Decl, Bound}
use Rattle.soqe_form.specs.Truth.{truth, holds, alike}
use Rattle.soqe_form.specs.Boxes.{boxes}
use Rattle.soqe_form.specs.Free.{free}
use Rattle.soqe_form.specs.Mentions.{mentions, form_above, depth}
use Rattle.soqe_subst.specs.Substitution.{without, bound_mentions, bound_above, renamed, lacks, fresh, catches, new_binder, new_body, sub}
use Rattle.soqe_term.specs.Renumber.{numbered}
use Rattle.soqe_form.proofs.Agree.{truth-agree}
use Rattle.soqe_subst.proofs.Binders.{assigned-under, assigned-new, assigned-without, assigned-tables, bound_mentions-above}
use Rattle.soqe_subst.proofs.Renamings.{truth-renamed, depth-renamed, depth-positive, free-mentions, mentions-above}

-- what the new number is not
pub record IsFresh (s : List Pair) (f : Form) (n : ℕ) : Type 0 where
  pub not_bound : bound_mentions n s ≡ false
  pub not_in : mentions n f ≡ false

from_lacks : (b : Bool) → not b ≡ true → b ≡ false
from_lacks true h = sym h
from_lacks false h = refl

pub fresh-is : (s : List Pair) (f : Form) → IsFresh s f (fresh s f)
fresh-is s f =
    let last : ℕ = max (bound_above s) (form_above f) in
    let at_last : lacks s f (0 + last) ≡ true =
    ap not (or_from (bound_mentions (0 + last) s) (mentions (0 + last) f) (bound_mentions-above (0 + last) s (omega arith)) (mentions-above (0 + last) f (omega arith))) in
    let n : ℕ = fresh s f in
    let none = from_lacks (bound_mentions n s || mentions n f) (first_from-passes (lacks s f) 0 last at_last) in
    record {
      not_bound = or_none_first (bound_mentions n s) (mentions n f) none;
      not_in = or_none_second (bound_mentions n s) (mentions n f) none;
    }

holds-reading : (w : World) (e : ℕ → ℕ) (p : Pred) (xs : List ℕ) → holds (reading w e w.bound) p xs ≡ holds w p xs
holds-reading w e (Decl n) xs = refl
holds-reading w e (Bound n) xs = refl

-- substitution in formulas no deeper than k keeps truth
abbrev Keeps : ℕ → Type 0
Keeps k = (v : World) (s : List Pair) (g : Form) → depth g ≤ k → truth v (sub k s g) ≡ truth (with_binding v s) g

renamed_below : (k : ℕ) (w : World) (s : List Pair) (y : Var) (f : Form) (z a : ℕ) → Keeps k → depth f ≤ k → IsFresh (without y.num s) f z
    → truth (with_var w z a) (sub k (without y.num s) (renamed y.num (numbered y z) f)) ≡ truth (with_var (with_binding w s) y.num a) f
renamed_below k w s y f z a h d new =
    let d2 : depth (renamed y.num (numbered y z) f) ≤ k = omega (arith, depth-renamed y.num (numbered y z) f) in
    h (with_var w z a) (without y.num s) (renamed y.num (numbered y z) f) d2
    ∙ truth-renamed (with_binding (with_var w z a) (without y.num s)) y.num (numbered y z) f new.not_in
    ∙ ap (λ e. truth (reading w (changed e y.num (e z)) w.bound) f) (assigned-new w z a (without y.num s) new.not_bound)
    ∙ ap (λ u. truth (reading w (changed (changed (assigned w (without y.num s)) z a) y.num u) w.bound) f) (changed-at (assigned w (without y.num s)) z a)
    ∙ truth-agree w (changed (changed (assigned w (without y.num s)) z a) y.num a) (changed (assigned w s) y.num a) w.bound w.bound f
    (λ n o. ap (λ v. cond (eqb n y.num) a v) (agree_changed (λ n. free n f) (assigned w (without y.num s)) z a (free-mentions z f new.not_in) n o) ∙ (λ i. assigned-without w y.num a s i n))
    (λ n o. refl)

kept_below : (k : ℕ) (w : World) (s : List Pair) (y : Var) (f : Form) (a : ℕ) → Keeps k → depth f ≤ k → catches (without y.num s) y f ≡ false
    → truth (with_var w y.num a) (sub k (without y.num s) f) ≡ truth (with_var (with_binding w s) y.num a) f
kept_below k w s y f a h d c =
    h (with_var w y.num a) (without y.num s) f d
    ∙ truth-agree w (assigned (with_var w y.num a) (without y.num s)) (changed (assigned w s) y.num a) w.bound w.bound f (assigned-under w y.num a s (λ n. free n f) c) (λ n o. refl)

truth_below : (k : ℕ) (w : World) (s : List Pair) (y : Var) (f : Form) → Keeps k → depth f ≤ k → (a : ℕ)
    → truth (with_var w (new_binder (without y.num s) y f).num a) (sub k (without y.num s) (new_body (without y.num s) y f)) ≡ truth (with_var (with_binding w s) y.num a) f
truth_below k w s y f h d a =
    let s2 : List Pair = without y.num s in
    let z : ℕ = fresh s2 f in
    bool_cases (λ q. truth (with_var w (cond q (numbered y z) y).num a) (sub k s2 (cond q (renamed y.num (numbered y z) f) f)) ≡ truth (with_var (with_binding w s) y.num a) f) (catches s2 y f)
    (λ c. renamed_below k w s y f z a h d (fresh-is s2 f))
    (λ c. kept_below k w s y f a h d c)

pub same_sort_of : (q : Bool) (y : Var) (z : ℕ) → (cond q (numbered y z) y).sort ≡ y.sort
same_sort_of true y z = refl
same_sort_of false y z = refl

below_table : (k : ℕ) (w : World) (s : List Pair) (p : ℕ) (t : List ℕ → Bool) (f : Form) → Keeps k → depth f ≤ k
    → truth (with_bound w p t) (sub k s f) ≡ truth (with_bound (with_binding w s) p t) f
below_table k w s p t f h d = h (with_bound w p t) s f d ∙ ap (λ e. truth (reading w e (changed w.bound p t)) f) (assigned-tables w p t s)

-- the truth after a substitution is the truth where each variable has the value of its term
pub truth-sub : (k : ℕ) → Keeps k
unfolding boxes
truth-sub zero w s f h = let p : 0 < depth f = depth-positive f in absurd (omega arith)
truth-sub (suc k) w s True h = refl
truth-sub (suc k) w s False h = refl
truth-sub (suc k) w s (Equal t u) h = λ i. eqb (value-bound_in w s t i) (value-bound_in w s u i)
truth-sub (suc k) w s (Atom p ts) h = ap (holds w p) (values-bound_in w s ts) ∙ sym (holds-reading w (assigned w s) p (values (with_binding w s) ts))
truth-sub (suc k) w s (Not' _ (one f end)) h = ap not (truth-sub k w s f (omega arith))
truth-sub (suc k) w s (And' _ (one f end) _ (one g end)) h = λ i. truth-sub k w s f (omega arith) i && truth-sub k w s g (omega arith) i
truth-sub (suc k) w s (Or' _ (one f end) _ (one g end)) h = λ i. truth-sub k w s f (omega arith) i || truth-sub k w s g (omega arith) i
truth-sub (suc k) w s (Imp' _ (one f end) _ (one g end)) h = λ i. not (truth-sub k w s f (omega arith) i) || truth-sub k w s g (omega arith) i
truth-sub (suc k) w s (Iff' _ (one f end) _ (one g end)) h = λ i. alike (truth-sub k w s f (omega arith) i) (truth-sub k w s g (omega arith) i)
truth-sub (suc k) w s (All' y _ (one f end)) h =
    λ i. every (w.size (same_sort_of (catches (without y.num s) y f) y (fresh (without y.num s) f) i)) (λ a. truth_below k w s y f (truth-sub k) (omega arith) a i)
truth-sub (suc k) w s (Ex' y _ (one f end)) h =
    λ i. some (w.size (same_sort_of (catches (without y.num s) y f) y (fresh (without y.num s) f) i)) (λ a. truth_below k w s y f (truth-sub k) (omega arith) a i)
truth-sub (suc k) w s (All2' p _ (one f end)) h =
    λ i. every_list (product (map w.size p.args)) (λ t. below_table k w s p.num (entry (map w.size p.args) t) f (truth-sub k) (omega arith) i)
truth-sub (suc k) w s (Ex2' p _ (one f end)) h =
    λ i. some_list (product (map w.size p.args)) (λ t. below_table k w s p.num (entry (map w.size p.args) t) f (truth-sub k) (omega arith) i)
