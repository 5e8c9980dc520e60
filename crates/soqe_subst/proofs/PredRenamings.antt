-- Another number in place of a bound predicate's, where that number stands nowhere in the formula.
use Rattle.std.proofs.Common.{◌≡◌, ℕ, suc, max, ◌≤◌, Bool, true, false, cond, eqb, not, ◌||◌, ◌&&◌, map, List, refl, sym, ◌∙◌, ap, arith}
use Rattle.std.proofs.lemmas.Bool.{eqb-true, ne_eqb, or_from, both_ways}
use Rattle.soqe_term.specs.World.{World, with_var, with_bound}
use Rattle.soqe_term.specs.Value.{values}
use Rattle.soqe_number.specs.Finite.{every, some, every_list, some_list, product, entry}
use Rattle.soqe_number.proofs.Choices.{by_cases, bool_cases, or_none_first, or_none_second}
use Rattle.soqe_term.proofs.Worlds.{changed-at, changed-off, changed-commutes, changed-again, values-bound, value-bound}
use Rattle.soqe_form.specs.declared.form.Pred.{Pred}
use Rattle.soqe_form.specs.declared.form.Pred.TheVariants.{Decl, Bound}
use Rattle.soqe_form.specs.declared.form.PVar.{PVar}
use Rattle.soqe_form.specs.declared.form.Form.{Form, True, False, Equal, Atom, Not', And', Or', Imp', Iff', All', Ex', All2, All2', Ex2, Ex2', end_of-Form as end, more_of-Form as one}
use Rattle.soqe_form.specs.Boxes.{boxes}
use Rattle.soqe_form.specs.Truth.{truth, holds, alike}
use Rattle.soqe_form.specs.Free.{free_pred, is_bound}
use Rattle.soqe_form.specs.FreePreds.{hides, has_free}
use Rattle.soqe_form.specs.Mentions.{depth}
use Rattle.soqe_subst.specs.PredRenaming.{exchanged, renamed_pred, renumbered}
use Rattle.soqe_form.specs.MentionsPreds.{mentions_pred, pred_above, preds_above}
use Rattle.soqe_form.proofs.Agree.{truth-lacks}
use Rattle.soqe_form.proofs.FreePreds.{has_free-bound}

-- ---- truth

holds-exchanged : (w : World) (m n : ℕ) (p : Pred) (args : List ℕ) → holds w (exchanged m n p) args ≡ holds (with_bound w m (w.bound n)) p args
holds-exchanged w m n (Decl k) args = refl
holds-exchanged w m n (Bound k) args =
    bool_cases (λ b. w.bound (cond b n k) args ≡ cond b (w.bound n) (w.bound k) args) (eqb k m) (λ _. refl) (λ _. refl)

-- a binder below which the predicate is renamed, or which binds it
below_binder : (w : World) (m n p : ℕ) (t : List ℕ → Bool) (f g : Form) → eqb n p ≡ false
    → truth (with_bound w p t) g ≡ truth (with_bound (with_bound w p t) m ((with_bound w p t).bound n)) f
    → truth (with_bound w p t) (cond (eqb p m) f g) ≡ truth (with_bound (with_bound w m (w.bound n)) p t) f
below_binder w m n p t f g o h =
    by_cases (λ r. truth (with_bound w p t) r ≡ truth (with_bound (with_bound w m (w.bound n)) p t) f) (eqb p m) f g
    (λ e. sym (ap (λ k. truth (with_bound (with_bound w k (w.bound n)) p t) f) (sym (eqb-true p m e)) ∙ (λ i. truth (record w { bound = changed-again w.bound p (w.bound n) t i }) f)))
    (λ e. h ∙ (λ i. truth (with_bound (with_bound w p t) m (changed-off w.bound p n t o i)) f)
    ∙ (λ i. truth (record w { bound = changed-commutes w.bound p m t (w.bound n) e i }) f))

-- the truth is that with the table of the new number
pub truth-renamed_pred : (w : World) (m n : ℕ) (f : Form) → mentions_pred n f ≡ false → truth w (renamed_pred m n f) ≡ truth (with_bound w m (w.bound n)) f
unfolding boxes
truth-renamed_pred w m n True h = refl
truth-renamed_pred w m n False h = refl
truth-renamed_pred w m n (Equal s t) h = λ i. eqb (sym (value-bound w m (w.bound n) s) i) (sym (value-bound w m (w.bound n) t) i)
truth-renamed_pred w m n (Atom p ts) h =
    holds-exchanged w m n p (values w ts) ∙ ap (holds (with_bound w m (w.bound n)) p) (sym (values-bound w m (w.bound n) ts))
truth-renamed_pred w m n (Not' _ (one f end)) h = ap not (truth-renamed_pred w m n f h)
truth-renamed_pred w m n (And' _ (one f end) _ (one g end)) h =
    λ i. truth-renamed_pred w m n f (or_none_first (mentions_pred n f) (mentions_pred n g) h) i && truth-renamed_pred w m n g (or_none_second (mentions_pred n f) (mentions_pred n g) h) i
truth-renamed_pred w m n (Or' _ (one f end) _ (one g end)) h =
    λ i. truth-renamed_pred w m n f (or_none_first (mentions_pred n f) (mentions_pred n g) h) i || truth-renamed_pred w m n g (or_none_second (mentions_pred n f) (mentions_pred n g) h) i
truth-renamed_pred w m n (Imp' _ (one f end) _ (one g end)) h =
    λ i. not (truth-renamed_pred w m n f (or_none_first (mentions_pred n f) (mentions_pred n g) h) i) || truth-renamed_pred w m n g (or_none_second (mentions_pred n f) (mentions_pred n g) h) i
truth-renamed_pred w m n (Iff' _ (one f end) _ (one g end)) h =
    λ i. alike (truth-renamed_pred w m n f (or_none_first (mentions_pred n f) (mentions_pred n g) h) i) (truth-renamed_pred w m n g (or_none_second (mentions_pred n f) (mentions_pred n g) h) i)
truth-renamed_pred w m n (All' x _ (one f end)) h = λ i. every (w.size x.sort) (λ a. truth-renamed_pred (with_var w x.num a) m n f h i)
truth-renamed_pred w m n (Ex' x _ (one f end)) h = λ i. some (w.size x.sort) (λ a. truth-renamed_pred (with_var w x.num a) m n f h i)
truth-renamed_pred w m n (All2' p _ (one f end)) h =
    λ i. every_list (product (map w.size p.args)) (λ t. below_binder w m n p.num (entry (map w.size p.args) t) f (renamed_pred m n f) (or_none_first (eqb n p.num) (mentions_pred n f) h)
    (truth-renamed_pred (with_bound w p.num (entry (map w.size p.args) t)) m n f (or_none_second (eqb n p.num) (mentions_pred n f) h)) i)
truth-renamed_pred w m n (Ex2' p _ (one f end)) h =
    λ i. some_list (product (map w.size p.args)) (λ t. below_binder w m n p.num (entry (map w.size p.args) t) f (renamed_pred m n f) (or_none_first (eqb n p.num) (mentions_pred n f) h)
    (truth-renamed_pred (with_bound w p.num (entry (map w.size p.args) t)) m n f (or_none_second (eqb n p.num) (mentions_pred n f) h)) i)

-- ---- depth

same_depth_below : (b : Bool) (f g : Form) → depth g ≡ depth f → depth (cond b f g) ≡ depth f
same_depth_below true f g h = refl
same_depth_below false f g h = h

pub depth-renamed_pred : (m n : ℕ) (f : Form) → depth (renamed_pred m n f) ≡ depth f
unfolding boxes
depth-renamed_pred m n True = refl
depth-renamed_pred m n False = refl
depth-renamed_pred m n (Equal s t) = refl
depth-renamed_pred m n (Atom p ts) = refl
depth-renamed_pred m n (Not' _ (one f end)) = ap suc (depth-renamed_pred m n f)
depth-renamed_pred m n (And' _ (one f end) _ (one g end)) = λ i. suc (max (depth-renamed_pred m n f i) (depth-renamed_pred m n g i))
depth-renamed_pred m n (Or' _ (one f end) _ (one g end)) = λ i. suc (max (depth-renamed_pred m n f i) (depth-renamed_pred m n g i))
depth-renamed_pred m n (Imp' _ (one f end) _ (one g end)) = λ i. suc (max (depth-renamed_pred m n f i) (depth-renamed_pred m n g i))
depth-renamed_pred m n (Iff' _ (one f end) _ (one g end)) = λ i. suc (max (depth-renamed_pred m n f i) (depth-renamed_pred m n g i))
depth-renamed_pred m n (All' x _ (one f end)) = ap suc (depth-renamed_pred m n f)
depth-renamed_pred m n (Ex' x _ (one f end)) = ap suc (depth-renamed_pred m n f)
depth-renamed_pred m n (All2' p _ (one f end)) = ap suc (same_depth_below (eqb p.num m) f (renamed_pred m n f) (depth-renamed_pred m n f))
depth-renamed_pred m n (Ex2' p _ (one f end)) = ap suc (same_depth_below (eqb p.num m) f (renamed_pred m n f) (depth-renamed_pred m n f))

-- ---- free and mentioned numbers

none_below : (b c : Bool) → c ≡ false → cond b false c ≡ false
none_below true c h = refl
none_below false c h = h

pub free_pred-mentions : (n : ℕ) (f : Form) → mentions_pred n f ≡ false → free_pred n f ≡ false
free_pred-mentions n True h = h
free_pred-mentions n False h = h
free_pred-mentions n (Equal s t) h = h
free_pred-mentions n (Atom p ts) h = h
free_pred-mentions n (Not' _ (one f end)) h = free_pred-mentions n f h
free_pred-mentions n (And' _ (one f end) _ (one g end)) h =
    or_from (free_pred n f) (free_pred n g) (free_pred-mentions n f (or_none_first (mentions_pred n f) (mentions_pred n g) h)) (free_pred-mentions n g (or_none_second (mentions_pred n f) (mentions_pred n g) h))
free_pred-mentions n (Or' _ (one f end) _ (one g end)) h =
    or_from (free_pred n f) (free_pred n g) (free_pred-mentions n f (or_none_first (mentions_pred n f) (mentions_pred n g) h)) (free_pred-mentions n g (or_none_second (mentions_pred n f) (mentions_pred n g) h))
free_pred-mentions n (Imp' _ (one f end) _ (one g end)) h =
    or_from (free_pred n f) (free_pred n g) (free_pred-mentions n f (or_none_first (mentions_pred n f) (mentions_pred n g) h)) (free_pred-mentions n g (or_none_second (mentions_pred n f) (mentions_pred n g) h))
free_pred-mentions n (Iff' _ (one f end) _ (one g end)) h =
    or_from (free_pred n f) (free_pred n g) (free_pred-mentions n f (or_none_first (mentions_pred n f) (mentions_pred n g) h)) (free_pred-mentions n g (or_none_second (mentions_pred n f) (mentions_pred n g) h))
free_pred-mentions n (All' x _ (one f end)) h = free_pred-mentions n f h
free_pred-mentions n (Ex' x _ (one f end)) h = free_pred-mentions n f h
free_pred-mentions n (All2' p _ (one f end)) h = none_below (eqb n p.num) (free_pred n f) (free_pred-mentions n f (or_none_second (eqb n p.num) (mentions_pred n f) h))
free_pred-mentions n (Ex2' p _ (one f end)) h = none_below (eqb n p.num) (free_pred n f) (free_pred-mentions n f (or_none_second (eqb n p.num) (mentions_pred n f) h))

-- a binder whose number stands nowhere hides no free predicate
pub hides-none : (q : Pred) (n : ℕ) (f : Form) → mentions_pred n f ≡ false → has_free q f ≡ true → hides n q ≡ false
hides-none (Decl m) n f h o = refl
hides-none (Bound m) n f h o =
    bool_cases (λ b. eqb m n ≡ b → b ≡ false) (eqb m n)
    (λ _ e. absurd (both_ways (has_free (Bound n) f) (has_free-bound n f ∙ free_pred-mentions n f h) (ap (λ k. has_free (Bound k) f) (sym (eqb-true m n e)) ∙ o)))
    (λ _ e. refl) refl

is_bound-above : (n : ℕ) (p : Pred) → pred_above p ≤ n → is_bound n p ≡ false
is_bound-above n (Decl k) h = refl
is_bound-above n (Bound k) h = ne_eqb n k (omega arith)

pub mentions_pred-above : (n : ℕ) (f : Form) → preds_above f ≤ n → mentions_pred n f ≡ false
mentions_pred-above n True h = refl
mentions_pred-above n False h = refl
mentions_pred-above n (Equal s t) h = refl
mentions_pred-above n (Atom p ts) h = is_bound-above n p h
mentions_pred-above n (Not' _ (one f end)) h = mentions_pred-above n f h
mentions_pred-above n (And' _ (one f end) _ (one g end)) h = or_from (mentions_pred n f) (mentions_pred n g) (mentions_pred-above n f (omega arith)) (mentions_pred-above n g (omega arith))
mentions_pred-above n (Or' _ (one f end) _ (one g end)) h = or_from (mentions_pred n f) (mentions_pred n g) (mentions_pred-above n f (omega arith)) (mentions_pred-above n g (omega arith))
mentions_pred-above n (Imp' _ (one f end) _ (one g end)) h = or_from (mentions_pred n f) (mentions_pred n g) (mentions_pred-above n f (omega arith)) (mentions_pred-above n g (omega arith))
mentions_pred-above n (Iff' _ (one f end) _ (one g end)) h = or_from (mentions_pred n f) (mentions_pred n g) (mentions_pred-above n f (omega arith)) (mentions_pred-above n g (omega arith))
mentions_pred-above n (All' x _ (one f end)) h = mentions_pred-above n f h
mentions_pred-above n (Ex' x _ (one f end)) h = mentions_pred-above n f h
mentions_pred-above n (All2' p _ (one f end)) h = or_from (eqb n p.num) (mentions_pred n f) (ne_eqb n p.num (omega arith)) (mentions_pred-above n f (omega arith))
mentions_pred-above n (Ex2' p _ (one f end)) h = or_from (eqb n p.num) (mentions_pred n f) (ne_eqb n p.num (omega arith)) (mentions_pred-above n f (omega arith))

-- ---- binders

-- the new number's table is that of the old one
pub truth-other_number : (w : World) (m n : ℕ) (t : List ℕ → Bool) (f : Form) → mentions_pred n f ≡ false → truth (with_bound w n t) (renamed_pred m n f) ≡ truth (with_bound w m t) f
truth-other_number w m n t f h =
    truth-renamed_pred (with_bound w n t) m n f h
    ∙ (λ i. truth (with_bound (with_bound w n t) m (changed-at w.bound n t i)) f)
    ∙ bool_cases (λ b. eqb n m ≡ b → truth (with_bound (with_bound w n t) m t) f ≡ truth (with_bound w m t) f) (eqb n m)
    (λ _ e. ap (λ k. truth (with_bound (with_bound w k t) m t) f) (eqb-true n m e) ∙ (λ i. truth (record w { bound = changed-again w.bound m t t i }) f))
    (λ _ e. (λ i. truth (record w { bound = changed-commutes w.bound n m t t e i }) f) ∙ truth-lacks (with_bound w m t) n t f (free_pred-mentions n f h))
    refl

-- a quantifier of a predicate under another number
pub truth-renumbered_all : (w : World) (p : PVar) (n : ℕ) (f : Form) → mentions_pred n f ≡ false → truth w (All2 (renumbered p n) (renamed_pred p.num n f)) ≡ truth w (All2 p f)
unfolding boxes
truth-renumbered_all w p n f h = λ i. every_list (product (map w.size p.args)) (λ t. truth-other_number w p.num n (entry (map w.size p.args) t) f h i)

pub truth-renumbered_ex : (w : World) (p : PVar) (n : ℕ) (f : Form) → mentions_pred n f ≡ false → truth w (Ex2 (renumbered p n) (renamed_pred p.num n f)) ≡ truth w (Ex2 p f)
unfolding boxes
truth-renumbered_ex w p n f h = λ i. some_list (product (map w.size p.args)) (λ t. truth-other_number w p.num n (entry (map w.size p.args) t) f h i)
