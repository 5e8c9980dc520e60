-- A part replaced by one of equal truth in its scope keeps the truth of the whole, and the parts of a well-sorted
-- formula are well sorted in theirs.
use Rattle.std.proofs.Common.{◌≡◌, ℕ, Bool, true, false, cond, eqb, not, ◌||◌, ◌&&◌, map, List, [], ◌∷◌, Option, Some, None, sym, ◌∙◌, ap}
use Rattle.std.proofs.lemmas.Bool.{and_from}
use Rattle.soqe_term.specs.World.{with_var, with_bound}
use Rattle.soqe_number.specs.Finite.{every_list, some_list, product, entry}
use Rattle.soqe_term.specs.Sorting.{Sorting, over_var, over_bound}
use Rattle.soqe_number.proofs.Choices.{and_first, and_second}
use Rattle.soqe_number.proofs.Enumerations.{every-same, some-same}
use Rattle.soqe_term.proofs.Values.{fits-var, fits-bound}
use Rattle.soqe_form.specs.declared.form.Form.{Form, True, False, Equal, Atom, Not', And, And', Or, Or', Imp, Imp', Iff, Iff', All', Ex', All2', Ex2', end_of-Form as end, more_of-Form as one}
use Rattle.soqe_form.specs.Boxes.{boxes}
use Rattle.soqe_form.specs.Truth.{truth, alike}
use Rattle.soqe_form.specs.Sorted.{sorted}
use Rattle.soqe_form.specs.Alike.{AlikeIn}
use Rattle.soqe_form.specs.Places.{first_child, child, part_at, put_at, scope_at}

no_part : {A : Type 0} {f : Form} → None ≡ Some f → A
no_part e = cc

Some-is : {A : Type 0} {a b : A} → Some a ≡ Some b → a ≡ b
Some-is e = cc

only : (n : ℕ) (f : Option Form) (old : Form) → first_child n f ≡ Some old → f ≡ Some old
only n f old h = elim (eqb n 0) as (λ q. cond q f None ≡ Some old → f ≡ Some old) [ true ↦ λ h. h | false ↦ λ h. no_part h ] h

-- either child, with what is known of each
either : (n : ℕ) (f g : Option Form) (old : Form) (P : Form → Type 0) (Q : Sorting → Type 0) (u v : Form) (s t : Sorting)
    → child n f g ≡ Some old → Q (cond (eqb n 0) s t) → (f ≡ Some old → Q s → P u) → (g ≡ Some old → Q t → P v) → P (cond (eqb n 0) u v)
either n f g old P Q u v s t h k p q = cases (eqb n 0) (eqb n 1) h k
  where
    cases : (a b : Bool) → cond a f (cond b g None) ≡ Some old → Q (cond a s t) → P (cond a u v)
    cases true b h k = p h k
    cases false true h k = q h k
    cases false false h k = no_part h

-- a fact of the scope of either child
of_two : (n : ℕ) (f g : Option Form) (old : Form) (Q : Sorting → Type 0) (s t : Sorting)
    → child n f g ≡ Some old → (f ≡ Some old → Q s) → (g ≡ Some old → Q t) → Q (cond (eqb n 0) s t)
of_two n f g old Q s t h p q = cases (eqb n 0) (eqb n 1) h
  where
    cases : (a b : Bool) → cond a f (cond b g None) ≡ Some old → Q (cond a s t)
    cases true b h = p h
    cases false true h = q h
    cases false false h = no_part h

-- a part replaced by one of equal truth in its scope
pub truth-put_at : (p : List ℕ) (f old by : Form) → part_at p f ≡ Some old → (e : Sorting) → AlikeIn (scope_at p f e) by old → AlikeIn e (put_at p by f) f
unfolding boxes
truth-put_at [] f old by h e k w m = k w m ∙ ap (truth w) (sym (Some-is h))
truth-put_at (n ∷ p) True old by h e k w m = no_part h
truth-put_at (n ∷ p) False old by h e k w m = no_part h
truth-put_at (n ∷ p) (Equal s t) old by h e k w m = no_part h
truth-put_at (n ∷ p) (Atom q ts) old by h e k w m = no_part h
truth-put_at (n ∷ p) (Not' _ (one f end)) old by h e k w m = ap not (truth-put_at p f old by (only n (part_at p f) old h) e k w m)
truth-put_at (n ∷ p) (And' _ (one f end) _ (one g end)) old by h e k w m =
    either n (part_at p f) (part_at p g) old (λ r. truth w r ≡ (truth w f && truth w g)) (λ s. AlikeIn s by old) (And (put_at p by f) g) (And f (put_at p by g)) (scope_at p f e) (scope_at p g e) h k
    (λ o k i. truth-put_at p f old by o e k w m i && truth w g) (λ o k i. truth w f && truth-put_at p g old by o e k w m i)
truth-put_at (n ∷ p) (Or' _ (one f end) _ (one g end)) old by h e k w m =
    either n (part_at p f) (part_at p g) old (λ r. truth w r ≡ (truth w f || truth w g)) (λ s. AlikeIn s by old) (Or (put_at p by f) g) (Or f (put_at p by g)) (scope_at p f e) (scope_at p g e) h k
    (λ o k i. truth-put_at p f old by o e k w m i || truth w g) (λ o k i. truth w f || truth-put_at p g old by o e k w m i)
truth-put_at (n ∷ p) (Imp' _ (one f end) _ (one g end)) old by h e k w m =
    either n (part_at p f) (part_at p g) old (λ r. truth w r ≡ (not (truth w f) || truth w g)) (λ s. AlikeIn s by old) (Imp (put_at p by f) g) (Imp f (put_at p by g)) (scope_at p f e) (scope_at p g e) h k
    (λ o k i. not (truth-put_at p f old by o e k w m i) || truth w g) (λ o k i. not (truth w f) || truth-put_at p g old by o e k w m i)
truth-put_at (n ∷ p) (Iff' _ (one f end) _ (one g end)) old by h e k w m =
    either n (part_at p f) (part_at p g) old (λ r. truth w r ≡ alike (truth w f) (truth w g)) (λ s. AlikeIn s by old) (Iff (put_at p by f) g) (Iff f (put_at p by g)) (scope_at p f e) (scope_at p g e) h k
    (λ o k i. alike (truth-put_at p f old by o e k w m i) (truth w g)) (λ o k i. alike (truth w f) (truth-put_at p g old by o e k w m i))
truth-put_at (n ∷ p) (All' x _ (one f end)) old by h e k w m =
    every-same (w.size x.sort) (λ a. truth (with_var w x.num a) (put_at p by f)) (λ a. truth (with_var w x.num a) f) (λ a l. truth-put_at p f old by (only n (part_at p f) old h) (over_var e x.num x.sort) k (with_var w x.num a) (fits-var w e x.num x.sort a l m))
truth-put_at (n ∷ p) (Ex' x _ (one f end)) old by h e k w m =
    some-same (w.size x.sort) (λ a. truth (with_var w x.num a) (put_at p by f)) (λ a. truth (with_var w x.num a) f) (λ a l. truth-put_at p f old by (only n (part_at p f) old h) (over_var e x.num x.sort) k (with_var w x.num a) (fits-var w e x.num x.sort a l m))
truth-put_at (n ∷ p) (All2' q _ (one f end)) old by h e k w m =
    λ i. every_list (product (map w.size q.args)) (λ t. truth-put_at p f old by (only n (part_at p f) old h) (over_bound e q.num q.args) k (with_bound w q.num (entry (map w.size q.args) t)) (fits-bound w e q.num q.args (entry (map w.size q.args) t) m) i)
truth-put_at (n ∷ p) (Ex2' q _ (one f end)) old by h e k w m =
    λ i. some_list (product (map w.size q.args)) (λ t. truth-put_at p f old by (only n (part_at p f) old h) (over_bound e q.num q.args) k (with_bound w q.num (entry (map w.size q.args) t)) (fits-bound w e q.num q.args (entry (map w.size q.args) t) m) i)

-- a part of a well-sorted formula is well sorted in its scope
pub sorted-part : (p : List ℕ) (f old : Form) → part_at p f ≡ Some old → (e : Sorting) → sorted e f ≡ true → sorted (scope_at p f e) old ≡ true
sorted-part [] f old h e o = ap (sorted e) (sym (Some-is h)) ∙ o
sorted-part (n ∷ p) True old h e o = no_part h
sorted-part (n ∷ p) False old h e o = no_part h
sorted-part (n ∷ p) (Equal s t) old h e o = no_part h
sorted-part (n ∷ p) (Atom q ts) old h e o = no_part h
sorted-part (n ∷ p) (Not' _ (one f end)) old h e o = sorted-part p f old (only n (part_at p f) old h) e o
sorted-part (n ∷ p) (And' _ (one f end) _ (one g end)) old h e o =
    of_two n (part_at p f) (part_at p g) old (λ s. sorted s old ≡ true) (scope_at p f e) (scope_at p g e) h
    (λ q. sorted-part p f old q e (and_first (sorted e f) (sorted e g) o)) (λ q. sorted-part p g old q e (and_second (sorted e f) (sorted e g) o))
sorted-part (n ∷ p) (Or' _ (one f end) _ (one g end)) old h e o =
    of_two n (part_at p f) (part_at p g) old (λ s. sorted s old ≡ true) (scope_at p f e) (scope_at p g e) h
    (λ q. sorted-part p f old q e (and_first (sorted e f) (sorted e g) o)) (λ q. sorted-part p g old q e (and_second (sorted e f) (sorted e g) o))
sorted-part (n ∷ p) (Imp' _ (one f end) _ (one g end)) old h e o =
    of_two n (part_at p f) (part_at p g) old (λ s. sorted s old ≡ true) (scope_at p f e) (scope_at p g e) h
    (λ q. sorted-part p f old q e (and_first (sorted e f) (sorted e g) o)) (λ q. sorted-part p g old q e (and_second (sorted e f) (sorted e g) o))
sorted-part (n ∷ p) (Iff' _ (one f end) _ (one g end)) old h e o =
    of_two n (part_at p f) (part_at p g) old (λ s. sorted s old ≡ true) (scope_at p f e) (scope_at p g e) h
    (λ q. sorted-part p f old q e (and_first (sorted e f) (sorted e g) o)) (λ q. sorted-part p g old q e (and_second (sorted e f) (sorted e g) o))
sorted-part (n ∷ p) (All' x _ (one f end)) old h e o = sorted-part p f old (only n (part_at p f) old h) (over_var e x.num x.sort) o
sorted-part (n ∷ p) (Ex' x _ (one f end)) old h e o = sorted-part p f old (only n (part_at p f) old h) (over_var e x.num x.sort) o
sorted-part (n ∷ p) (All2' q _ (one f end)) old h e o = sorted-part p f old (only n (part_at p f) old h) (over_bound e q.num q.args) o
sorted-part (n ∷ p) (Ex2' q _ (one f end)) old h e o = sorted-part p f old (only n (part_at p f) old h) (over_bound e q.num q.args) o

-- a part that is well sorted in its scope, put at the place of another, keeps the whole well sorted
pub sorted-put_at : (p : List ℕ) (f old by : Form) → part_at p f ≡ Some old → (e : Sorting) → sorted (scope_at p f e) by ≡ true → sorted e f ≡ true → sorted e (put_at p by f) ≡ true
unfolding boxes
sorted-put_at [] f old by h e k o = k
sorted-put_at (n ∷ p) True old by h e k o = o
sorted-put_at (n ∷ p) False old by h e k o = o
sorted-put_at (n ∷ p) (Equal s t) old by h e k o = o
sorted-put_at (n ∷ p) (Atom q ts) old by h e k o = o
sorted-put_at (n ∷ p) (Not' _ (one f end)) old by h e k o = sorted-put_at p f old by (only n (part_at p f) old h) e k o
sorted-put_at (n ∷ p) (And' _ (one f end) _ (one g end)) old by h e k o =
    either n (part_at p f) (part_at p g) old (λ r. sorted e r ≡ true) (λ s. sorted s by ≡ true) (And (put_at p by f) g) (And f (put_at p by g)) (scope_at p f e) (scope_at p g e) h k
    (λ q k. and_from (sorted e (put_at p by f)) (sorted e g) (sorted-put_at p f old by q e k (and_first (sorted e f) (sorted e g) o)) (and_second (sorted e f) (sorted e g) o))
    (λ q k. and_from (sorted e f) (sorted e (put_at p by g)) (and_first (sorted e f) (sorted e g) o) (sorted-put_at p g old by q e k (and_second (sorted e f) (sorted e g) o)))
sorted-put_at (n ∷ p) (Or' _ (one f end) _ (one g end)) old by h e k o =
    either n (part_at p f) (part_at p g) old (λ r. sorted e r ≡ true) (λ s. sorted s by ≡ true) (Or (put_at p by f) g) (Or f (put_at p by g)) (scope_at p f e) (scope_at p g e) h k
    (λ q k. and_from (sorted e (put_at p by f)) (sorted e g) (sorted-put_at p f old by q e k (and_first (sorted e f) (sorted e g) o)) (and_second (sorted e f) (sorted e g) o))
    (λ q k. and_from (sorted e f) (sorted e (put_at p by g)) (and_first (sorted e f) (sorted e g) o) (sorted-put_at p g old by q e k (and_second (sorted e f) (sorted e g) o)))
sorted-put_at (n ∷ p) (Imp' _ (one f end) _ (one g end)) old by h e k o =
    either n (part_at p f) (part_at p g) old (λ r. sorted e r ≡ true) (λ s. sorted s by ≡ true) (Imp (put_at p by f) g) (Imp f (put_at p by g)) (scope_at p f e) (scope_at p g e) h k
    (λ q k. and_from (sorted e (put_at p by f)) (sorted e g) (sorted-put_at p f old by q e k (and_first (sorted e f) (sorted e g) o)) (and_second (sorted e f) (sorted e g) o))
    (λ q k. and_from (sorted e f) (sorted e (put_at p by g)) (and_first (sorted e f) (sorted e g) o) (sorted-put_at p g old by q e k (and_second (sorted e f) (sorted e g) o)))
sorted-put_at (n ∷ p) (Iff' _ (one f end) _ (one g end)) old by h e k o =
    either n (part_at p f) (part_at p g) old (λ r. sorted e r ≡ true) (λ s. sorted s by ≡ true) (Iff (put_at p by f) g) (Iff f (put_at p by g)) (scope_at p f e) (scope_at p g e) h k
    (λ q k. and_from (sorted e (put_at p by f)) (sorted e g) (sorted-put_at p f old by q e k (and_first (sorted e f) (sorted e g) o)) (and_second (sorted e f) (sorted e g) o))
    (λ q k. and_from (sorted e f) (sorted e (put_at p by g)) (and_first (sorted e f) (sorted e g) o) (sorted-put_at p g old by q e k (and_second (sorted e f) (sorted e g) o)))
sorted-put_at (n ∷ p) (All' x _ (one f end)) old by h e k o = sorted-put_at p f old by (only n (part_at p f) old h) (over_var e x.num x.sort) k o
sorted-put_at (n ∷ p) (Ex' x _ (one f end)) old by h e k o = sorted-put_at p f old by (only n (part_at p f) old h) (over_var e x.num x.sort) k o
sorted-put_at (n ∷ p) (All2' q _ (one f end)) old by h e k o = sorted-put_at p f old by (only n (part_at p f) old h) (over_bound e q.num q.args) k o
sorted-put_at (n ∷ p) (Ex2' q _ (one f end)) old by h e k o = sorted-put_at p f old by (only n (part_at p f) old h) (over_bound e q.num q.args) k o
