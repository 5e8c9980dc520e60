-- The free atoms of a predicate: what renaming and substitution leave of them, and how many arguments they have.
use Rattle.std.proofs.Common.{◌≡◌, ℕ, zero, suc, ◌<◌, ◌≤◌, Bool, true, false, cond, eqb, not, ◌||◌, ◌&&◌, List, [], ◌∷◌, length, Some, refl, sym, ◌∙◌, ap, arith}
use Rattle.std.proofs.lemmas.Bool.{eqb-true, eq-eqb, or_from, both_ways}
use Rattle.soqe_term.specs.declared.term.Var.{Var}
use Rattle.soqe_term.specs.declared.term.Term.{Term, Var as var}
use Rattle.soqe_term.specs.declared.term.Terms.{Terms, Nil, Cons', end_of-Term as end-t, more_of-Term as one-t, end_of-Terms as ends-t, more_of-Terms as ones-t}
use Rattle.soqe_term.specs.declared.bindings.Bound.{Bound as Pair}
use Rattle.soqe_term.specs.Boxes.{boxes as term_boxes}
use Rattle.soqe_term.specs.Bindings.{all_bound_in}
use Rattle.soqe_term.specs.Sorting.{Sorting, over_var, over_bound, with_sorts, own_sort, sorted_term, sorted_terms}
use Rattle.soqe_term.specs.Subst.{all_replaced}
use Rattle.soqe_number.proofs.Choices.{by_cases, bool_cases, and_first, and_second, or_none_first, or_none_second}
use Rattle.soqe_term.proofs.Worlds.{changed-off}
use Rattle.soqe_form.specs.declared.form.Pred.{Pred}
use Rattle.soqe_form.specs.declared.form.Pred.TheVariants.{Decl, Bound}
use Rattle.soqe_form.specs.declared.form.Form.{Form, True, False, Equal, Atom, Not', And', Or', Imp', Iff', All', Ex', All2', Ex2', end_of-Form as end, more_of-Form as one}
use Rattle.soqe_form.specs.Boxes.{boxes}
use Rattle.soqe_form.specs.FreePreds.{same_pred, hides, has_free, count, has_atom}
use Rattle.soqe_form.specs.Mentions.{depth}
use Rattle.soqe_subst.specs.PredRenaming.{exchanged, renamed_pred}
use Rattle.soqe_form.specs.Sorted.{sorted, pred_sorts}
use Rattle.soqe_subst.specs.Substitution.{without, renamed, fresh, catches, new_body, sub}
use Rattle.soqe_term.specs.Renumber.{numbered}
use Rattle.soqe_form.proofs.FreePreds.{same_pred-true}
use Rattle.soqe_subst.proofs.Renamings.{depth-renamed, depth-positive}
use Rattle.soqe_form.proofs.Numbers.{eqb-swap}

-- ---- tests of the number of arguments

and_true : (b : Bool) → (b && true) ≡ b
and_true true = refl
and_true false = refl

and_false : (b : Bool) → (b && false) ≡ false
and_false true = refl
and_false false = refl

none_there : (b : Bool) → cond b false false ≡ false
none_there true = refl
none_there false = refl

-- with any number of arguments
pub has_atom-any : (q : Pred) (f : Form) → has_atom q (λ n. true) f ≡ has_free q f
has_atom-any q True = refl
has_atom-any q False = refl
has_atom-any q (Equal s t) = refl
has_atom-any q (Atom p ts) = and_true (same_pred q p)
has_atom-any q (Not' _ (one f end)) = has_atom-any q f
has_atom-any q (And' _ (one f end) _ (one g end)) = λ i. has_atom-any q f i || has_atom-any q g i
has_atom-any q (Or' _ (one f end) _ (one g end)) = λ i. has_atom-any q f i || has_atom-any q g i
has_atom-any q (Imp' _ (one f end) _ (one g end)) = λ i. has_atom-any q f i || has_atom-any q g i
has_atom-any q (Iff' _ (one f end) _ (one g end)) = λ i. has_atom-any q f i || has_atom-any q g i
has_atom-any q (All' x _ (one f end)) = has_atom-any q f
has_atom-any q (Ex' x _ (one f end)) = has_atom-any q f
has_atom-any q (All2' p _ (one f end)) = ap (λ c. cond (hides p.num q) false c) (has_atom-any q f)
has_atom-any q (Ex2' p _ (one f end)) = ap (λ c. cond (hides p.num q) false c) (has_atom-any q f)

-- with a number of arguments that no atom can have
pub has_atom-none : (q : Pred) (f : Form) → has_atom q (λ n. false) f ≡ false
has_atom-none q True = refl
has_atom-none q False = refl
has_atom-none q (Equal s t) = refl
has_atom-none q (Atom p ts) = and_false (same_pred q p)
has_atom-none q (Not' _ (one f end)) = has_atom-none q f
has_atom-none q (And' _ (one f end) _ (one g end)) = λ i. has_atom-none q f i || has_atom-none q g i
has_atom-none q (Or' _ (one f end) _ (one g end)) = λ i. has_atom-none q f i || has_atom-none q g i
has_atom-none q (Imp' _ (one f end) _ (one g end)) = λ i. has_atom-none q f i || has_atom-none q g i
has_atom-none q (Iff' _ (one f end) _ (one g end)) = λ i. has_atom-none q f i || has_atom-none q g i
has_atom-none q (All' x _ (one f end)) = has_atom-none q f
has_atom-none q (Ex' x _ (one f end)) = has_atom-none q f
has_atom-none q (All2' p _ (one f end)) = ap (λ c. cond (hides p.num q) false c) (has_atom-none q f) ∙ none_there (hides p.num q)
has_atom-none q (Ex2' p _ (one f end)) = ap (λ c. cond (hides p.num q) false c) (has_atom-none q f) ∙ none_there (hides p.num q)

none_and : (b c : Bool) → b ≡ false → (b && c) ≡ false
none_and b c e = ap (λ b. b && c) e

none_below : (h a b : Bool) → cond h false a ≡ false → (a ≡ false → b ≡ false) → cond h false b ≡ false
none_below true a b e k = refl
none_below false a b e k = k e

-- a predicate that is not free has no free atom
pub has_atom-lacks : (q : Pred) (c : ℕ → Bool) (f : Form) → has_free q f ≡ false → has_atom q c f ≡ false
has_atom-lacks q c True h = refl
has_atom-lacks q c False h = refl
has_atom-lacks q c (Equal s t) h = refl
has_atom-lacks q c (Atom p ts) h = none_and (same_pred q p) (c (count ts)) h
has_atom-lacks q c (Not' _ (one f end)) h = has_atom-lacks q c f h
has_atom-lacks q c (And' _ (one f end) _ (one g end)) h = or_from (has_atom q c f) (has_atom q c g) (has_atom-lacks q c f (or_none_first (has_free q f) (has_free q g) h)) (has_atom-lacks q c g (or_none_second (has_free q f) (has_free q g) h))
has_atom-lacks q c (Or' _ (one f end) _ (one g end)) h = or_from (has_atom q c f) (has_atom q c g) (has_atom-lacks q c f (or_none_first (has_free q f) (has_free q g) h)) (has_atom-lacks q c g (or_none_second (has_free q f) (has_free q g) h))
has_atom-lacks q c (Imp' _ (one f end) _ (one g end)) h = or_from (has_atom q c f) (has_atom q c g) (has_atom-lacks q c f (or_none_first (has_free q f) (has_free q g) h)) (has_atom-lacks q c g (or_none_second (has_free q f) (has_free q g) h))
has_atom-lacks q c (Iff' _ (one f end) _ (one g end)) h = or_from (has_atom q c f) (has_atom q c g) (has_atom-lacks q c f (or_none_first (has_free q f) (has_free q g) h)) (has_atom-lacks q c g (or_none_second (has_free q f) (has_free q g) h))
has_atom-lacks q c (All' x _ (one f end)) h = has_atom-lacks q c f h
has_atom-lacks q c (Ex' x _ (one f end)) h = has_atom-lacks q c f h
has_atom-lacks q c (All2' p _ (one f end)) h = none_below (hides p.num q) (has_free q f) (has_atom q c f) h (λ e. has_atom-lacks q c f e)
has_atom-lacks q c (Ex2' p _ (one f end)) h = none_below (hides p.num q) (has_free q f) (has_atom q c f) h (λ e. has_atom-lacks q c f e)

-- ---- a variable renamed

pub count-replaced : (y : ℕ) (t : Term) (ts : Terms) → count (all_replaced y t ts) ≡ count ts
unfolding term_boxes
count-replaced y t Nil = refl
count-replaced y t (Cons' _ (one-t u end-t) _ (ones-t ts ends-t)) = ap suc (count-replaced y t ts)

pub count-bound : (s : List Pair) (ts : Terms) → count (all_bound_in s ts) ≡ count ts
unfolding term_boxes
count-bound s Nil = refl
count-bound s (Cons' _ (one-t u end-t) _ (ones-t ts ends-t)) = ap suc (count-bound s ts)

module _ (q : Pred) (c : ℕ → Bool) where
  either_way : (b : Bool) (f g : Form) → has_atom q c g ≡ has_atom q c f → has_atom q c (cond b f g) ≡ has_atom q c f
  either_way true f g h = refl
  either_way false f g h = h

  pub has_atom-renamed : (y : ℕ) (z : Var) (f : Form) → has_atom q c (renamed y z f) ≡ has_atom q c f
  unfolding boxes
  has_atom-renamed y z True = refl
  has_atom-renamed y z False = refl
  has_atom-renamed y z (Equal s t) = refl
  has_atom-renamed y z (Atom p ts) = ap (λ n. same_pred q p && c n) (count-replaced y (var z) ts)
  has_atom-renamed y z (Not' _ (one f end)) = has_atom-renamed y z f
  has_atom-renamed y z (And' _ (one f end) _ (one g end)) = λ i. has_atom-renamed y z f i || has_atom-renamed y z g i
  has_atom-renamed y z (Or' _ (one f end) _ (one g end)) = λ i. has_atom-renamed y z f i || has_atom-renamed y z g i
  has_atom-renamed y z (Imp' _ (one f end) _ (one g end)) = λ i. has_atom-renamed y z f i || has_atom-renamed y z g i
  has_atom-renamed y z (Iff' _ (one f end) _ (one g end)) = λ i. has_atom-renamed y z f i || has_atom-renamed y z g i
  has_atom-renamed y z (All' x _ (one f end)) = either_way (eqb x.num y) f (renamed y z f) (has_atom-renamed y z f)
  has_atom-renamed y z (Ex' x _ (one f end)) = either_way (eqb x.num y) f (renamed y z f) (has_atom-renamed y z f)
  has_atom-renamed y z (All2' p _ (one f end)) = ap (λ b. cond (hides p.num q) false b) (has_atom-renamed y z f)
  has_atom-renamed y z (Ex2' p _ (one f end)) = ap (λ b. cond (hides p.num q) false b) (has_atom-renamed y z f)

  -- ---- free variables replaced by terms

  abbrev Stays : ℕ → Type 0
  Stays k = (s : List Pair) (f : Form) → depth f ≤ k → has_atom q c (sub k s f) ≡ has_atom q c f

  below_var : (k : ℕ) (s : List Pair) (y : Var) (f : Form) → Stays k → depth f ≤ k → has_atom q c (sub k s (new_body s y f)) ≡ has_atom q c f
  below_var k s y f h d =
      let z : Var = numbered y (fresh s f) in
      by_cases (λ g. has_atom q c (sub k s g) ≡ has_atom q c f) (catches s y f) (renamed y.num z f) f
      (λ _. h s (renamed y.num z f) (omega (arith, depth-renamed y.num z f)) ∙ has_atom-renamed y.num z f)
      (λ _. h s f d)

  pub has_atom-sub : (k : ℕ) → Stays k
  unfolding boxes
  has_atom-sub zero s f d = let p : 0 < depth f = depth-positive f in absurd (omega arith)
  has_atom-sub (suc k) s True d = refl
  has_atom-sub (suc k) s False d = refl
  has_atom-sub (suc k) s (Equal t u) d = refl
  has_atom-sub (suc k) s (Atom p ts) d = ap (λ n. same_pred q p && c n) (count-bound s ts)
  has_atom-sub (suc k) s (Not' _ (one f end)) d = has_atom-sub k s f (omega arith)
  has_atom-sub (suc k) s (And' _ (one f end) _ (one g end)) d = λ i. has_atom-sub k s f (omega arith) i || has_atom-sub k s g (omega arith) i
  has_atom-sub (suc k) s (Or' _ (one f end) _ (one g end)) d = λ i. has_atom-sub k s f (omega arith) i || has_atom-sub k s g (omega arith) i
  has_atom-sub (suc k) s (Imp' _ (one f end) _ (one g end)) d = λ i. has_atom-sub k s f (omega arith) i || has_atom-sub k s g (omega arith) i
  has_atom-sub (suc k) s (Iff' _ (one f end) _ (one g end)) d = λ i. has_atom-sub k s f (omega arith) i || has_atom-sub k s g (omega arith) i
  has_atom-sub (suc k) s (All' y _ (one f end)) d = below_var k (without y.num s) y f (has_atom-sub k) (omega arith)
  has_atom-sub (suc k) s (Ex' y _ (one f end)) d = below_var k (without y.num s) y f (has_atom-sub k) (omega arith)
  has_atom-sub (suc k) s (All2' p _ (one f end)) d = ap (λ b. cond (hides p.num q) false b) (has_atom-sub k s f (omega arith))
  has_atom-sub (suc k) s (Ex2' p _ (one f end)) d = ap (λ b. cond (hides p.num q) false b) (has_atom-sub k s f (omega arith))

  -- ---- a bound predicate renamed

  none_hidden : (b : Bool) → false ≡ cond b false false
  none_hidden true = refl
  none_hidden false = refl

  hidden_or : (h a b : Bool) → (cond h false a || cond h false b) ≡ cond h false (a || b)
  hidden_or true a b = refl
  hidden_or false a b = refl

  hidden_and : (h a b : Bool) → (cond h false a && b) ≡ cond h false (a && b)
  hidden_and true a b = refl
  hidden_and false a b = refl

  hidden_once : (h a : Bool) → cond h false a ≡ cond h false (cond h false a)
  hidden_once true a = refl
  hidden_once false a = refl

  hidden_swap : (g h a : Bool) → cond g false (cond h false a) ≡ cond h false (cond g false a)
  hidden_swap true true a = refl
  hidden_swap true false a = refl
  hidden_swap false h a = refl

  same_exchanged : (q : Pred) (m n : ℕ) (p : Pred) → hides n q ≡ false → same_pred q (exchanged m n p) ≡ cond (hides m q) false (same_pred q p)
  same_exchanged (Decl j) m n (Decl k) h = refl
  same_exchanged (Decl j) m n (Bound k) h = refl
  same_exchanged (Bound j) m n (Decl k) h = none_hidden (eqb j m)
  same_exchanged (Bound j) m n (Bound k) h =
      bool_cases (λ b. eqb k m ≡ b → eqb j (cond b n k) ≡ cond (eqb j m) false (eqb j k)) (eqb k m)
      (λ _ e. h ∙ sym (ap (λ k. cond (eqb j m) false (eqb j k)) (eqb-true k m e) ∙ hides_itself (eqb j m)))
      (λ _ e. bool_cases (λ b. eqb j m ≡ b → eqb j k ≡ cond b false (eqb j k)) (eqb j m)
      (λ _ o. ap (λ j. eqb j k) (eqb-true j m o) ∙ eqb-swap k m e)
      (λ _ o. refl) refl)
      refl
    where
      hides_itself : (b : Bool) → cond b false b ≡ false
      hides_itself true = refl
      hides_itself false = refl

  below_binder : (m r : ℕ) (f g : Form) → has_atom q c g ≡ cond (hides m q) false (has_atom q c f)
      → cond (hides r q) false (has_atom q c (cond (eqb r m) f g)) ≡ cond (hides m q) false (cond (hides r q) false (has_atom q c f))
  below_binder m r f g h =
      by_cases (λ u. cond (hides r q) false (has_atom q c u) ≡ cond (hides m q) false (cond (hides r q) false (has_atom q c f))) (eqb r m) f g
      (λ e. hidden_once (hides r q) (has_atom q c f) ∙ ap (λ m. cond (hides m q) false (cond (hides r q) false (has_atom q c f))) (eqb-true r m e))
      (λ e. ap (λ a. cond (hides r q) false a) h ∙ hidden_swap (hides r q) (hides m q) (has_atom q c f))

  two_parts : (m : ℕ) (f g f2 g2 : Form) → has_atom q c f2 ≡ cond (hides m q) false (has_atom q c f) → has_atom q c g2 ≡ cond (hides m q) false (has_atom q c g)
      → (has_atom q c f2 || has_atom q c g2) ≡ cond (hides m q) false (has_atom q c f || has_atom q c g)
  two_parts m f g f2 g2 h k = (λ i. h i || k i) ∙ hidden_or (hides m q) (has_atom q c f) (has_atom q c g)

  -- the renamed predicate has no atom left, and each other one but the new one has its own
  pub has_atom-renamed_pred : (m n : ℕ) (f : Form) → hides n q ≡ false → has_atom q c (renamed_pred m n f) ≡ cond (hides m q) false (has_atom q c f)
  unfolding boxes
  has_atom-renamed_pred m n True h = none_hidden (hides m q)
  has_atom-renamed_pred m n False h = none_hidden (hides m q)
  has_atom-renamed_pred m n (Equal s t) h = none_hidden (hides m q)
  has_atom-renamed_pred m n (Atom p ts) h = ap (λ b. b && c (count ts)) (same_exchanged q m n p h) ∙ hidden_and (hides m q) (same_pred q p) (c (count ts))
  has_atom-renamed_pred m n (Not' _ (one f end)) h = has_atom-renamed_pred m n f h
  has_atom-renamed_pred m n (And' _ (one f end) _ (one g end)) h = two_parts m f g (renamed_pred m n f) (renamed_pred m n g) (has_atom-renamed_pred m n f h) (has_atom-renamed_pred m n g h)
  has_atom-renamed_pred m n (Or' _ (one f end) _ (one g end)) h = two_parts m f g (renamed_pred m n f) (renamed_pred m n g) (has_atom-renamed_pred m n f h) (has_atom-renamed_pred m n g h)
  has_atom-renamed_pred m n (Imp' _ (one f end) _ (one g end)) h = two_parts m f g (renamed_pred m n f) (renamed_pred m n g) (has_atom-renamed_pred m n f h) (has_atom-renamed_pred m n g h)
  has_atom-renamed_pred m n (Iff' _ (one f end) _ (one g end)) h = two_parts m f g (renamed_pred m n f) (renamed_pred m n g) (has_atom-renamed_pred m n f h) (has_atom-renamed_pred m n g h)
  has_atom-renamed_pred m n (All' x _ (one f end)) h = has_atom-renamed_pred m n f h
  has_atom-renamed_pred m n (Ex' x _ (one f end)) h = has_atom-renamed_pred m n f h
  has_atom-renamed_pred m n (All2' p _ (one f end)) h = below_binder m p.num f (renamed_pred m n f) (has_atom-renamed_pred m n f h)
  has_atom-renamed_pred m n (Ex2' p _ (one f end)) h = below_binder m p.num f (renamed_pred m n f) (has_atom-renamed_pred m n f h)

-- the same of free predicates
pub has_free-renamed : (q : Pred) (y : ℕ) (z : Var) (f : Form) → has_free q (renamed y z f) ≡ has_free q f
has_free-renamed q y z f = sym (has_atom-any q (renamed y z f)) ∙ has_atom-renamed q (λ n. true) y z f ∙ has_atom-any q f

pub has_free-sub : (q : Pred) (k : ℕ) (s : List Pair) (f : Form) → depth f ≤ k → has_free q (sub k s f) ≡ has_free q f
has_free-sub q k s f d = sym (has_atom-any q (sub k s f)) ∙ has_atom-sub q (λ n. true) k s f d ∙ has_atom-any q f

pub has_free-renamed_pred : (q : Pred) (m n : ℕ) (f : Form) → hides n q ≡ false → has_free q (renamed_pred m n f) ≡ cond (hides m q) false (has_free q f)
has_free-renamed_pred q m n f h =
    sym (has_atom-any q (renamed_pred m n f)) ∙ has_atom-renamed_pred q (λ n. true) m n f h ∙ ap (λ b. cond (hides m q) false b) (has_atom-any q f)

-- ---- atoms in a well-sorted formula

pub length-sorted : (e : Sorting) (ts : Terms) (sorts : List ℕ) → sorted_terms e ts sorts ≡ true → count ts ≡ length sorts
length-sorted e Nil [] h = refl
length-sorted e Nil (s ∷ sorts) h = absurd (both_ways false refl h)
length-sorted e (Cons' _ (one-t t end-t) _ (ones-t ts ends-t)) [] h = absurd (both_ways false refl h)
length-sorted e (Cons' _ (one-t t end-t) _ (ones-t ts ends-t)) (s ∷ sorts) h =
    ap suc (length-sorted e ts sorts (and_second (eqb (own_sort t) s) (sorted_terms e ts sorts) (and_second (sorted_term e t) (eqb (own_sort t) s && sorted_terms e ts sorts) h)))

pub pred_sorts-beside : (e : Sorting) (q : Pred) (n : ℕ) (sorts : List ℕ) → hides n q ≡ false → pred_sorts (over_bound e n sorts) q ≡ pred_sorts e q
pred_sorts-beside e (Decl m) n sorts h = refl
pred_sorts-beside e (Bound m) n sorts h = changed-off e.bound n m (Some sorts) h

-- a variable more doesn't matter
pub pred_sorts-over_var : (e : Sorting) (q : Pred) (x s : ℕ) → pred_sorts (over_var e x s) q ≡ pred_sorts e q
pred_sorts-over_var e (Decl m) x s = refl
pred_sorts-over_var e (Bound m) x s = refl

module _ (q : Pred) (sorts : List ℕ) where
  abbrev other : ℕ → Bool
  other n = not (eqb n (length sorts))

  of_atom : (e : Sorting) (p : Pred) (ts : Terms) → pred_sorts e q ≡ Some sorts → with_sorts (λ sorts. sorted_terms e ts sorts) (pred_sorts e p) ≡ true → (same_pred q p && other (count ts)) ≡ false
  of_atom e p ts k h =
      bool_cases (λ b. same_pred q p ≡ b → (b && other (count ts)) ≡ false) (same_pred q p)
      (λ _ s.
      let args : sorted_terms e ts sorts ≡ true =
      sym (ap (with_sorts (λ sorts. sorted_terms e ts sorts)) (ap (pred_sorts e) (sym (same_pred-true q p s)) ∙ k)) ∙ h in
      ap not (eq-eqb (count ts) (length sorts) (length-sorted e ts sorts args)))
      (λ _ s. refl) refl

  below : (e : Sorting) (n : ℕ) (args : List ℕ) (f : Form) → (hides n q ≡ false → has_atom q other f ≡ false) → cond (hides n q) false (has_atom q other f) ≡ false
  below e n args f h = by_cases (λ b. b ≡ false) (hides n q) false (has_atom q other f) (λ _. refl) h

  -- each free atom of a known predicate has as many arguments as the predicate has sorts
  pub sorted-counts : (e : Sorting) (f : Form) → pred_sorts e q ≡ Some sorts → sorted e f ≡ true → has_atom q other f ≡ false
  sorted-counts e True k h = refl
  sorted-counts e False k h = refl
  sorted-counts e (Equal s t) k h = refl
  sorted-counts e (Atom p ts) k h = of_atom e p ts k h
  sorted-counts e (Not' _ (one f end)) k h = sorted-counts e f k h
  sorted-counts e (And' _ (one f end) _ (one g end)) k h = or_from (has_atom q other f) (has_atom q other g) (sorted-counts e f k (and_first (sorted e f) (sorted e g) h)) (sorted-counts e g k (and_second (sorted e f) (sorted e g) h))
  sorted-counts e (Or' _ (one f end) _ (one g end)) k h = or_from (has_atom q other f) (has_atom q other g) (sorted-counts e f k (and_first (sorted e f) (sorted e g) h)) (sorted-counts e g k (and_second (sorted e f) (sorted e g) h))
  sorted-counts e (Imp' _ (one f end) _ (one g end)) k h = or_from (has_atom q other f) (has_atom q other g) (sorted-counts e f k (and_first (sorted e f) (sorted e g) h)) (sorted-counts e g k (and_second (sorted e f) (sorted e g) h))
  sorted-counts e (Iff' _ (one f end) _ (one g end)) k h = or_from (has_atom q other f) (has_atom q other g) (sorted-counts e f k (and_first (sorted e f) (sorted e g) h)) (sorted-counts e g k (and_second (sorted e f) (sorted e g) h))
  sorted-counts e (All' x _ (one f end)) k h = sorted-counts (over_var e x.num x.sort) f (pred_sorts-over_var e q x.num x.sort ∙ k) h
  sorted-counts e (Ex' x _ (one f end)) k h = sorted-counts (over_var e x.num x.sort) f (pred_sorts-over_var e q x.num x.sort ∙ k) h
  sorted-counts e (All2' p _ (one f end)) k h = below e p.num p.args f (λ o. sorted-counts (over_bound e p.num p.args) f (pred_sorts-beside e q p.num p.args o ∙ k) h)
  sorted-counts e (Ex2' p _ (one f end)) k h = below e p.num p.args f (λ o. sorted-counts (over_bound e p.num p.args) f (pred_sorts-beside e q p.num p.args o ∙ k) h)
