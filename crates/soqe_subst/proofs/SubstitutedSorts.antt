-- Capture-free substitution keeps formulas well sorted.
--
-- The sorting e is that in which the result is to be well sorted; v are the sorts of variables with which the formula is.
-- They suit the binding where each variable that occurs with its sort in v has a term of that sort, well sorted in e.
-- Below a binder both know one more variable, and the terms of the binding still suit, since nothing is caught.
use Rattle.std.proofs.Common.{◌≡◌, ℕ, zero, suc, ◌<◌, ◌≤◌, Bool, true, false, cond, eqb, ◌||◌, ◌&&◌, List, [], ◌∷◌, Option, Some, None, refl, sym, ◌∙◌, ap, arith}
use Rattle.std.proofs.lemmas.Bool.{eqb-true, both_ways, or_left, or_right}
use Rattle.std.proofs.lemmas.List.Elements.{All-nil, All-cons}
use Rattle.soqe_term.specs.declared.bindings.Bound.{Bound as Pair}
use Rattle.soqe_term.specs.declared.term.Sym.{Sym}
use Rattle.soqe_term.specs.declared.term.Sym.TheVariants.{Fun, Skolem}
use Rattle.soqe_term.specs.declared.term.Var.{Var}
use Rattle.soqe_term.specs.declared.term.Term.{Term, App, Var as var}
use Rattle.soqe_term.specs.declared.term.Terms.{Terms, Nil, Cons', end_of-Term as end-t, more_of-Term as one-t, end_of-Terms as ends-t, more_of-Terms as ones-t}
use Rattle.soqe_term.specs.Boxes.{boxes as term_boxes}
use Rattle.soqe_number.specs.Updates.{changed}
use Rattle.soqe_term.specs.Occurs.{occurs, occurs_any}
use Rattle.soqe_term.specs.Sorting.{Sorting, over_var, over_bound, sym_sort, is_sort, with_sorts, own_sort, sorted_term, sorted_terms}
use Rattle.soqe_term.specs.Sorting.{over_vars}
use Rattle.soqe_term.specs.Subst.{replaced, all_replaced}
use Rattle.soqe_term.specs.Bindings.{bound_term, term_or, term_of, bound_in, all_bound_in, over_binding, HasOwnSorts, AreSorted}
use Rattle.soqe_number.proofs.Choices.{by_cases, bool_cases, and_first, and_second, or_none_first, or_none_second}
use Rattle.soqe_term.proofs.Worlds.{changed-at, changed-off, changed-again, changed-commutes, agree_changed, eqb-self}
use Rattle.soqe_term.proofs.Sortings.{sorted_term-agree}
use Rattle.soqe_term.proofs.Values.{fun-of}
use Rattle.soqe_term.proofs.Replaced.{with_fun-pass, sorted-bound_in, sorted-replaced, sorted-all_replaced}
use Rattle.soqe_form.specs.declared.form.Pred.{Pred}
use Rattle.soqe_form.specs.declared.form.Pred.TheVariants.{Decl, Bound}
use Rattle.soqe_form.specs.declared.form.Form.{Form, True, False, Equal, Atom, Not', And', Or', Imp', Iff', All', Ex', All2', Ex2', end_of-Form as end, more_of-Form as one}
use Rattle.soqe_form.specs.Boxes.{boxes}
use Rattle.soqe_form.specs.Free.{free}
use Rattle.soqe_form.specs.Sorted.{sorted, pred_sorts}
use Rattle.soqe_form.specs.Mentions.{mentions, depth}
use Rattle.soqe_subst.specs.Substitution.{without, renamed, fresh, catches, new_binder, new_body, sub}
use Rattle.soqe_term.specs.Renumber.{numbered}
use Rattle.soqe_subst.specs.IsSub.{single}
use Rattle.soqe_form.proofs.Sortings.{sorted-agree}
use Rattle.soqe_subst.proofs.Binders.{bound_term-visible, bound_term-new, occurs-uncaught, occurs-new}
use Rattle.soqe_subst.proofs.Renamings.{depth-renamed, depth-positive, free-mentions}
use Rattle.soqe_form.proofs.Numbers.{eqb-swap}
use Rattle.soqe_subst.proofs.Substitutions.{IsFresh, fresh-is}

-- each variable that passes the test and bears its sort in v has a term of that sort, well sorted in e
abbrev pub Suits : (ℕ → Bool) → Sorting → List Pair → (ℕ → Option ℕ) → Type 0
Suits p e s v = (x : Var) → p x.num ≡ true → is_sort x.sort (v x.num) ≡ true → (sorted_term e (term_of s x) ≡ true) × (own_sort (term_of s x) ≡ x.sort)

suits-left : (p q : ℕ → Bool) (e : Sorting) (s : List Pair) (v : ℕ → Option ℕ) → Suits (λ n. p n || q n) e s v → Suits p e s v
suits-left p q e s v h x o k = h x (or_left (p x.num) (q x.num) o) k

suits-right : (p q : ℕ → Bool) (e : Sorting) (s : List Pair) (v : ℕ → Option ℕ) → Suits (λ n. p n || q n) e s v → Suits q e s v
suits-right p q e s v h x o k = h x (or_right (p x.num) (q x.num) o) k

-- a term's sorting doesn't depend on bound predicates
suits-bound : (e : Sorting) (v : ℕ → Option ℕ) (s : List Pair) (m : ℕ) (sorts : List ℕ) (p : ℕ → Bool) → Suits p e s v → Suits p (over_bound e m sorts) s v
suits-bound e v s m sorts p h x o k =
    let old : (sorted_term e (term_of s x) ≡ true) × (own_sort (term_of s x) ≡ x.sort) = h x o k in
    (sorted_term-agree e e.variable e.variable (changed e.bound m (Some sorts)) e.bound (term_of s x) (λ n q. refl) ∙ old.0, old.1)

-- ---- terms

sym-vars : (e : Sorting) (v : ℕ → Option ℕ) (f : Sym) → sym_sort e f ≡ sym_sort (over_vars e v) f
sym-vars e v (Fun n) = refl
sym-vars e v (Skolem n) = refl

mutual
  unfolding term_boxes

  sorted_term-bound : (e : Sorting) (v : ℕ → Option ℕ) (s : List Pair) (t : Term) → Suits (λ n. occurs n t) e s v → sorted_term (over_vars e v) t ≡ true
      → (sorted_term e (bound_in s t) ≡ true) × (own_sort (bound_in s t) ≡ own_sort t)
  sorted_term-bound e v s (var y) h o = h y (eqb-self y.num) o
  sorted_term-bound e v s (App f m ts) h o =
      let k = fun-of (λ sorts. sorted_terms (over_vars e v) ts sorts) m (sym_sort (over_vars e v) f) o in
      (with_fun-pass (λ sorts. sorted_terms e (all_bound_in s ts) sorts) m (sym_sort e f) k.kind (sym-vars e v f ∙ k.is) k.result (sorted_terms-bound e v s ts k.kind.args h k.pass), refl)

  sorted_terms-bound : (e : Sorting) (v : ℕ → Option ℕ) (s : List Pair) (ts : Terms) (sorts : List ℕ) → Suits (λ n. occurs_any n ts) e s v → sorted_terms (over_vars e v) ts sorts ≡ true
      → sorted_terms e (all_bound_in s ts) sorts ≡ true
  sorted_terms-bound e v s Nil [] h o = refl
  sorted_terms-bound e v s Nil (r ∷ sorts) h o = o
  sorted_terms-bound e v s (Cons' _ (one-t t end-t) _ (ones-t ts ends-t)) [] h o = o
  sorted_terms-bound e v s (Cons' _ (one-t t end-t) _ (ones-t ts ends-t)) (r ∷ sorts) h o =
      let e2 : Sorting = over_vars e v in
      let rest : (eqb (own_sort t) r && sorted_terms e2 ts sorts) ≡ true = and_second (sorted_term e2 t) (eqb (own_sort t) r && sorted_terms e2 ts sorts) o in
      let first : (sorted_term e (bound_in s t) ≡ true) × (own_sort (bound_in s t) ≡ own_sort t) =
      sorted_term-bound e v s t (suits-left (λ n. occurs n t) (λ n. occurs_any n ts) e s v h) (and_first (sorted_term e2 t) (eqb (own_sort t) r && sorted_terms e2 ts sorts) o) in
      let same : eqb (own_sort (bound_in s t)) r ≡ true = ap (λ n. eqb n r) first.1 ∙ and_first (eqb (own_sort t) r) (sorted_terms e2 ts sorts) rest in
      let others : sorted_terms e (all_bound_in s ts) sorts ≡ true =
      sorted_terms-bound e v s ts sorts (suits-right (λ n. occurs n t) (λ n. occurs_any n ts) e s v h) (and_second (eqb (own_sort t) r) (sorted_terms e2 ts sorts) rest) in
      (λ i. first.0 i && (same i && others i))

with_sorts-pass : (p q : List ℕ → Bool) (o : Option (List ℕ)) → ((sorts : List ℕ) → p sorts ≡ true → q sorts ≡ true) → with_sorts p o ≡ true → with_sorts q o ≡ true
with_sorts-pass p q None h k = k
with_sorts-pass p q (Some sorts) h k = h sorts k

pred-pass : (e : Sorting) (v : ℕ → Option ℕ) (p : Pred) (f g : List ℕ → Bool) → ((sorts : List ℕ) → f sorts ≡ true → g sorts ≡ true)
    → with_sorts f (pred_sorts (over_vars e v) p) ≡ true → with_sorts g (pred_sorts e p) ≡ true
pred-pass e v (Decl n) f g h k = with_sorts-pass f g (e.declared n) h k
pred-pass e v (Bound n) f g h k = with_sorts-pass f g (e.bound n) h k

-- an equation of two terms, each well sorted and of its old sort
equal-sorted : (a b c d : Bool) (j k r s : ℕ) → a ≡ true → b ≡ true → j ≡ r → k ≡ s → (c && (d && eqb r s)) ≡ true → (a && (b && eqb j k)) ≡ true
equal-sorted a b c d j k r s p q u w h =
    let same : eqb j k ≡ true = (λ l. eqb (u l) (w l)) ∙ and_second d (eqb r s) (and_second c (d && eqb r s) h) in
    λ i. p i && (q i && same i)

-- ---- a variable put in place of another one

over_var-again : (e : Sorting) (y x r s : ℕ) → eqb x y ≡ true → over_var (over_var e y r) x s ≡ over_var e x s
over_var-again e y x r s h =
    ap (λ n. over_var (over_var e n r) x s) (sym (eqb-true x y h)) ∙ (λ i. record e { variable = changed-again e.variable x (Some r) (Some s) i })

over_var-commutes : (e : Sorting) (y x r s : ℕ) → eqb y x ≡ false → over_var (over_var e y r) x s ≡ over_var (over_var e x s) y r
over_var-commutes e y x r s h = λ i. record e { variable = changed-commutes e.variable y x (Some r) (Some s) h i }

sorted_below-renamed : (e : Sorting) (y r : ℕ) (x : Var) (f g : Form) → (sorted (over_var (over_var e x.num x.sort) y r) f ≡ true → sorted (over_var e x.num x.sort) g ≡ true)
    → sorted (over_var (over_var e y r) x.num x.sort) f ≡ true → sorted (over_var e x.num x.sort) (cond (eqb x.num y) f g) ≡ true
sorted_below-renamed e y r x f g h o =
    by_cases (λ u. sorted (over_var e x.num x.sort) u ≡ true) (eqb x.num y) f g
    (λ q. ap (λ d. sorted d f) (sym (over_var-again e y x.num r x.sort q)) ∙ o)
    (λ q. h (ap (λ d. sorted d f) (sym (over_var-commutes e y x.num r x.sort (eqb-swap x.num y q))) ∙ o))

pred-renamed : (e : Sorting) (y r : ℕ) (p : Pred) (f g : List ℕ → Bool) → ((sorts : List ℕ) → f sorts ≡ true → g sorts ≡ true)
    → with_sorts f (pred_sorts (over_var e y r) p) ≡ true → with_sorts g (pred_sorts e p) ≡ true
pred-renamed e y r p f g h k = pred-pass e (changed e.variable y (Some r)) p f g h k

pub sorted-renamed : (e : Sorting) (y : ℕ) (z : Var) (f : Form) → mentions z.num f ≡ false → e.variable z.num ≡ Some z.sort → sorted (over_var e y z.sort) f ≡ true
    → sorted e (renamed y z f) ≡ true
unfolding boxes
sorted-renamed e y z True h k o = refl
sorted-renamed e y z False h k o = refl
sorted-renamed e y z (Equal s t) h k o =
    let own : sorted_term e (var z) ≡ true = ap (is_sort z.sort) k ∙ eqb-self z.sort in
    let e2 : Sorting = over_var e y z.sort in
    let first : (sorted_term e (replaced y (var z) s) ≡ true) × (own_sort (replaced y (var z) s) ≡ own_sort s) =
    sorted-replaced e y z.sort (var z) refl own s (and_first (sorted_term e2 s) (sorted_term e2 t && eqb (own_sort s) (own_sort t)) o) in
    let second : (sorted_term e (replaced y (var z) t) ≡ true) × (own_sort (replaced y (var z) t) ≡ own_sort t) =
    sorted-replaced e y z.sort (var z) refl own t (and_first (sorted_term e2 t) (eqb (own_sort s) (own_sort t)) (and_second (sorted_term e2 s) (sorted_term e2 t && eqb (own_sort s) (own_sort t)) o)) in
    equal-sorted (sorted_term e (replaced y (var z) s)) (sorted_term e (replaced y (var z) t)) (sorted_term e2 s) (sorted_term e2 t)
    (own_sort (replaced y (var z) s)) (own_sort (replaced y (var z) t)) (own_sort s) (own_sort t) first.0 second.0 first.1 second.1 o
sorted-renamed e y z (Atom p ts) h k o =
    let own : sorted_term e (var z) ≡ true = ap (is_sort z.sort) k ∙ eqb-self z.sort in
    pred-renamed e y z.sort p (λ sorts. sorted_terms (over_var e y z.sort) ts sorts) (λ sorts. sorted_terms e (all_replaced y (var z) ts) sorts)
    (λ sorts q. sorted-all_replaced e y z.sort (var z) refl own ts sorts q) o
sorted-renamed e y z (Not' _ (one f end)) h k o = sorted-renamed e y z f h k o
sorted-renamed e y z (And' _ (one f end) _ (one g end)) h k o =
    λ i. sorted-renamed e y z f (or_none_first (mentions z.num f) (mentions z.num g) h) k (and_first (sorted (over_var e y z.sort) f) (sorted (over_var e y z.sort) g) o) i && sorted-renamed e y z g (or_none_second (mentions z.num f) (mentions z.num g) h) k (and_second (sorted (over_var e y z.sort) f) (sorted (over_var e y z.sort) g) o) i
sorted-renamed e y z (Or' _ (one f end) _ (one g end)) h k o =
    λ i. sorted-renamed e y z f (or_none_first (mentions z.num f) (mentions z.num g) h) k (and_first (sorted (over_var e y z.sort) f) (sorted (over_var e y z.sort) g) o) i && sorted-renamed e y z g (or_none_second (mentions z.num f) (mentions z.num g) h) k (and_second (sorted (over_var e y z.sort) f) (sorted (over_var e y z.sort) g) o) i
sorted-renamed e y z (Imp' _ (one f end) _ (one g end)) h k o =
    λ i. sorted-renamed e y z f (or_none_first (mentions z.num f) (mentions z.num g) h) k (and_first (sorted (over_var e y z.sort) f) (sorted (over_var e y z.sort) g) o) i && sorted-renamed e y z g (or_none_second (mentions z.num f) (mentions z.num g) h) k (and_second (sorted (over_var e y z.sort) f) (sorted (over_var e y z.sort) g) o) i
sorted-renamed e y z (Iff' _ (one f end) _ (one g end)) h k o =
    λ i. sorted-renamed e y z f (or_none_first (mentions z.num f) (mentions z.num g) h) k (and_first (sorted (over_var e y z.sort) f) (sorted (over_var e y z.sort) g) o) i && sorted-renamed e y z g (or_none_second (mentions z.num f) (mentions z.num g) h) k (and_second (sorted (over_var e y z.sort) f) (sorted (over_var e y z.sort) g) o) i
sorted-renamed e y z (All' x _ (one f end)) h k o =
    sorted_below-renamed e y z.sort x f (renamed y z f)
    (λ q. sorted-renamed (over_var e x.num x.sort) y z f (or_none_second (eqb z.num x.num) (mentions z.num f) h)
    (changed-off e.variable x.num z.num (Some x.sort) (or_none_first (eqb z.num x.num) (mentions z.num f) h) ∙ k) q) o
sorted-renamed e y z (Ex' x _ (one f end)) h k o =
    sorted_below-renamed e y z.sort x f (renamed y z f)
    (λ q. sorted-renamed (over_var e x.num x.sort) y z f (or_none_second (eqb z.num x.num) (mentions z.num f) h)
    (changed-off e.variable x.num z.num (Some x.sort) (or_none_first (eqb z.num x.num) (mentions z.num f) h) ∙ k) q) o
sorted-renamed e y z (All2' p _ (one f end)) h k o = sorted-renamed (over_bound e p.num p.args) y z f h k o
sorted-renamed e y z (Ex2' p _ (one f end)) h k o = sorted-renamed (over_bound e p.num p.args) y z f h k o

-- ---- what is free after a renaming

either : (b p q p2 q2 : Bool) → (p ≡ true → cond b false p2 ≡ true) → (q ≡ true → cond b false q2 ≡ true) → (p || q) ≡ true → cond b false (p2 || q2) ≡ true
either true true q p2 q2 f g h = f refl
either true false q p2 q2 f g h = g h
either false true q p2 q2 f g h = or_left p2 q2 (f refl)
either false false q p2 q2 f g h = or_right p2 q2 (g h)

mutual
  unfolding term_boxes

  occurs-renamed : (n y : ℕ) (z : Var) (t : Term) → eqb n z.num ≡ false → occurs n (replaced y (var z) t) ≡ true → cond (eqb n y) false (occurs n t) ≡ true
  occurs-renamed n y z (var x) e h =
      by_cases (λ t. occurs n t ≡ true → cond (eqb n y) false (eqb n x.num) ≡ true) (eqb x.num y) (var z) (var x)
      (λ q k. absurd (both_ways (eqb n z.num) e k))
      (λ q k. ap (λ b. cond b false (eqb n x.num)) (ap (λ m. eqb m y) (eqb-true n x.num k) ∙ q) ∙ k) h
  occurs-renamed n y z (App f s ts) e h = occurs_any-renamed n y z ts e h

  occurs_any-renamed : (n y : ℕ) (z : Var) (ts : Terms) → eqb n z.num ≡ false → occurs_any n (all_replaced y (var z) ts) ≡ true → cond (eqb n y) false (occurs_any n ts) ≡ true
  occurs_any-renamed n y z Nil e h = absurd (both_ways false refl h)
  occurs_any-renamed n y z (Cons' _ (one-t t end-t) _ (ones-t ts ends-t)) e h =
      either (eqb n y) (occurs n (replaced y (var z) t)) (occurs_any n (all_replaced y (var z) ts)) (occurs n t) (occurs_any n ts)
      (λ k. occurs-renamed n y z t e k) (λ k. occurs_any-renamed n y z ts e k) h

free_below-renamed : (n y : ℕ) (x : Var) (f g : Form) → (free n g ≡ true → cond (eqb n y) false (free n f) ≡ true)
    → cond (eqb n x.num) false (free n (cond (eqb x.num y) f g)) ≡ true → cond (eqb n y) false (cond (eqb n x.num) false (free n f)) ≡ true
free_below-renamed n y x f g h k =
    bool_cases (λ b. eqb n x.num ≡ b → cond b false (free n (cond (eqb x.num y) f g)) ≡ true → cond (eqb n y) false (cond b false (free n f)) ≡ true) (eqb n x.num)
    (λ o q l. absurd (both_ways false refl l))
    (λ o q l.
    by_cases (λ r. free n r ≡ true → cond (eqb n y) false (free n f) ≡ true) (eqb x.num y) f g
    (λ e m. ap (λ b. cond b false (free n f)) (ap (λ j. eqb n j) (sym (eqb-true x.num y e)) ∙ q) ∙ m)
    (λ e m. h m) l)
    refl k

-- a free variable other than the new one was free before, and is not the one that was replaced
pub free-renamed : (n y : ℕ) (z : Var) (f : Form) → eqb n z.num ≡ false → free n (renamed y z f) ≡ true → cond (eqb n y) false (free n f) ≡ true
unfolding boxes
free-renamed n y z True e h = absurd (both_ways false refl h)
free-renamed n y z False e h = absurd (both_ways false refl h)
free-renamed n y z (Equal s t) e h =
    either (eqb n y) (occurs n (replaced y (var z) s)) (occurs n (replaced y (var z) t)) (occurs n s) (occurs n t) (λ k. occurs-renamed n y z s e k) (λ k. occurs-renamed n y z t e k) h
free-renamed n y z (Atom p ts) e h = occurs_any-renamed n y z ts e h
free-renamed n y z (Not' _ (one f end)) e h = free-renamed n y z f e h
free-renamed n y z (And' _ (one f end) _ (one g end)) e h =
    either (eqb n y) (free n (renamed y z f)) (free n (renamed y z g)) (free n f) (free n g) (λ k. free-renamed n y z f e k) (λ k. free-renamed n y z g e k) h
free-renamed n y z (Or' _ (one f end) _ (one g end)) e h =
    either (eqb n y) (free n (renamed y z f)) (free n (renamed y z g)) (free n f) (free n g) (λ k. free-renamed n y z f e k) (λ k. free-renamed n y z g e k) h
free-renamed n y z (Imp' _ (one f end) _ (one g end)) e h =
    either (eqb n y) (free n (renamed y z f)) (free n (renamed y z g)) (free n f) (free n g) (λ k. free-renamed n y z f e k) (λ k. free-renamed n y z g e k) h
free-renamed n y z (Iff' _ (one f end) _ (one g end)) e h =
    either (eqb n y) (free n (renamed y z f)) (free n (renamed y z g)) (free n f) (free n g) (λ k. free-renamed n y z f e k) (λ k. free-renamed n y z g e k) h
free-renamed n y z (All' x _ (one f end)) e h = free_below-renamed n y x f (renamed y z f) (λ k. free-renamed n y z f e k) h
free-renamed n y z (Ex' x _ (one f end)) e h = free_below-renamed n y x f (renamed y z f) (λ k. free-renamed n y z f e k) h
free-renamed n y z (All2' p _ (one f end)) e h = free-renamed n y z f e h
free-renamed n y z (Ex2' p _ (one f end)) e h = free-renamed n y z f e h

-- ---- binders

sorted_term-new : (e : Sorting) (z r : ℕ) (t : Term) → occurs z t ≡ false → sorted_term (over_var e z r) t ≡ sorted_term e t
sorted_term-new e z r t h = sorted_term-agree e (changed e.variable z (Some r)) e.variable e.bound e.bound t (agree_changed (λ n. occurs n t) e.variable z (Some r) h)

-- one more variable z, which has no term and is in none
suits-below : (e : Sorting) (v : ℕ → Option ℕ) (s s2 : List Pair) (p p2 : ℕ → Bool) (z r : ℕ) → bound_term s2 z ≡ None
    → ((n : ℕ) → eqb n z ≡ false → p2 n ≡ true → (p n ≡ true) × (bound_term s2 n ≡ bound_term s n))
    → ((x : Var) → p2 x.num ≡ true → eqb x.num z ≡ false → occurs z (term_of s2 x) ≡ false)
    → Suits p e s v → Suits p2 (over_var e z r) s2 (changed v z (Some r))
suits-below e v s s2 p p2 z r none others new h x o k =
    bool_cases (λ b. eqb x.num z ≡ b → (sorted_term (over_var e z r) (term_of s2 x) ≡ true) × (own_sort (term_of s2 x) ≡ x.sort)) (eqb x.num z)
    (λ u q.
    let itself : term_of s2 x ≡ var x = ap (λ n. term_or (var x) (bound_term s2 n)) (eqb-true x.num z q) ∙ ap (term_or (var x)) none in
    let known : sorted_term (over_var e z r) (var x) ≡ true =
    ap (λ b. is_sort x.sort (cond b (Some r) (e.variable x.num))) q ∙ sym (ap (λ b. is_sort x.sort (cond b (Some r) (v x.num))) q) ∙ k in
    (ap (sorted_term (over_var e z r)) itself ∙ known, ap own_sort itself))
    (λ u q.
    let known : (p x.num ≡ true) × (bound_term s2 x.num ≡ bound_term s x.num) = others x.num q o in
    let old : (sorted_term e (term_of s x) ≡ true) × (own_sort (term_of s x) ≡ x.sort) = h x known.0 (sym (ap (λ b. is_sort x.sort (cond b (Some r) (v x.num))) q) ∙ k) in
    let same : term_of s2 x ≡ term_of s x = ap (term_or (var x)) known.1 in
    (sorted_term-new e z r (term_of s2 x) (new x o q) ∙ ap (sorted_term e) same ∙ old.0, ap own_sort same ∙ old.1))
    refl

first_fails : (b c : Bool) → cond b false c ≡ true → b ≡ false
first_fails true c h = sym h
first_fails false c h = refl

pub others-kept : (s : List Pair) (y : ℕ) (f : Form) (n : ℕ) → eqb n y ≡ false → free n f ≡ true → (cond (eqb n y) false (free n f) ≡ true) × (bound_term (without y s) n ≡ bound_term s n)
others-kept s y f n q o =
    (ap (λ b. cond b false (free n f)) q ∙ o, bound_term-visible (λ n. eqb n y) n s ∙ ap (λ b. cond b None (bound_term s n)) q)

pub others-renamed : (s : List Pair) (y : ℕ) (z : Var) (f : Form) (n : ℕ) → eqb n z.num ≡ false → free n (renamed y z f) ≡ true
    → (cond (eqb n y) false (free n f) ≡ true) × (bound_term (without y s) n ≡ bound_term s n)
others-renamed s y z f n q o =
    let was : cond (eqb n y) false (free n f) ≡ true = free-renamed n y z f q o in
    (was, bound_term-visible (λ n. eqb n y) n s ∙ ap (λ b. cond b None (bound_term s n)) (first_fails (eqb n y) (free n f) was))

-- substitution in formulas no deeper than k keeps sorts
abbrev KeepsSorts : ℕ → Type 0
KeepsSorts k = (e : Sorting) (v : ℕ → Option ℕ) (s : List Pair) (g : Form) → depth g ≤ k → Suits (λ n. free n g) e s v → sorted (over_vars e v) g ≡ true → sorted e (sub k s g) ≡ true

kept_sorts : (k : ℕ) (e : Sorting) (v : ℕ → Option ℕ) (s : List Pair) (y : Var) (f : Form) → KeepsSorts k → depth f ≤ k → Suits (λ n. cond (eqb n y.num) false (free n f)) e s v
    → sorted (over_var (over_vars e v) y.num y.sort) f ≡ true → catches (without y.num s) y f ≡ false → sorted (over_var e y.num y.sort) (sub k (without y.num s) f) ≡ true
kept_sorts k e v s y f keeps d h o c =
    keeps (over_var e y.num y.sort) (changed v y.num (Some y.sort)) (without y.num s) f d
    (suits-below e v s (without y.num s) (λ n. cond (eqb n y.num) false (free n f)) (λ n. free n f) y.num y.sort
    (bound_term-visible (λ n. eqb n y.num) y.num s ∙ ap (λ b. cond b None (bound_term s y.num)) (eqb-self y.num))
    (others-kept s y.num f)
    (λ x p q. occurs-uncaught y.num (λ n. free n f) (without y.num s) x c p (eqb-swap x.num y.num q)) h) o

renamed_sorts : (k : ℕ) (e : Sorting) (v : ℕ → Option ℕ) (s : List Pair) (y : Var) (f : Form) (z : ℕ) → KeepsSorts k → depth f ≤ k → Suits (λ n. cond (eqb n y.num) false (free n f)) e s v
    → sorted (over_var (over_vars e v) y.num y.sort) f ≡ true → IsFresh (without y.num s) f z → sorted (over_var e z y.sort) (sub k (without y.num s) (renamed y.num (numbered y z) f)) ≡ true
renamed_sorts k e v s y f z keeps d h o new =
    let d2 : depth (renamed y.num (numbered y z) f) ≤ k = omega (arith, depth-renamed y.num (numbered y z) f) in
    let both : sorted (over_var (over_var (over_vars e v) z y.sort) y.num y.sort) f ≡ true =
    sorted-agree e (changed (changed v z (Some y.sort)) y.num (Some y.sort)) (changed v y.num (Some y.sort)) e.bound e.bound f
    (λ n q. ap (λ d. cond (eqb n y.num) (Some y.sort) d) (agree_changed (λ n. free n f) v z (Some y.sort) (free-mentions z f new.not_in) n q)) (λ n q. refl)
    ∙ o in
    keeps (over_var e z y.sort) (changed v z (Some y.sort)) (without y.num s) (renamed y.num (numbered y z) f) d2
    (suits-below e v s (without y.num s) (λ n. cond (eqb n y.num) false (free n f)) (λ n. free n (renamed y.num (numbered y z) f)) z y.sort
    (bound_term-new z (without y.num s) new.not_bound)
    (others-renamed s y.num (numbered y z) f)
    (λ x p q. occurs-new z (without y.num s) x new.not_bound (eqb-swap x.num z q)) h)
    (sorted-renamed (over_var (over_vars e v) z y.sort) y.num (numbered y z) f new.not_in (changed-at v z (Some y.sort)) both)

sorts_below : (k : ℕ) (e : Sorting) (v : ℕ → Option ℕ) (s : List Pair) (y : Var) (f : Form) → KeepsSorts k → depth f ≤ k → Suits (λ n. cond (eqb n y.num) false (free n f)) e s v
    → sorted (over_var (over_vars e v) y.num y.sort) f ≡ true
    → sorted (over_var e (new_binder (without y.num s) y f).num (new_binder (without y.num s) y f).sort) (sub k (without y.num s) (new_body (without y.num s) y f)) ≡ true
sorts_below k e v s y f keeps d h o =
    let s2 : List Pair = without y.num s in
    let z : ℕ = fresh s2 f in
    bool_cases (λ q. sorted (over_var e (cond q (numbered y z) y).num (cond q (numbered y z) y).sort) (sub k s2 (cond q (renamed y.num (numbered y z) f) f)) ≡ true) (catches s2 y f)
    (λ c. renamed_sorts k e v s y f z keeps d h o (fresh-is s2 f))
    (λ c. kept_sorts k e v s y f keeps d h o c)

two_parts : (e : Sorting) (v : ℕ → Option ℕ) (k : ℕ) (s : List Pair) (f g : Form) → KeepsSorts k → depth f ≤ k → depth g ≤ k → Suits (λ n. free n f || free n g) e s v
    → (sorted (over_vars e v) f && sorted (over_vars e v) g) ≡ true → (sorted e (sub k s f) && sorted e (sub k s g)) ≡ true
two_parts e v k s f g keeps df dg h o =
    λ i. keeps e v s f df (suits-left (λ n. free n f) (λ n. free n g) e s v h) (and_first (sorted (over_vars e v) f) (sorted (over_vars e v) g) o) i && keeps e v s g dg (suits-right (λ n. free n f) (λ n. free n g) e s v h) (and_second (sorted (over_vars e v) f) (sorted (over_vars e v) g) o) i

pub sorted-sub : (k : ℕ) → KeepsSorts k
unfolding boxes
sorted-sub zero e v s f d h o = let p : 0 < depth f = depth-positive f in absurd (omega arith)
sorted-sub (suc k) e v s True d h o = refl
sorted-sub (suc k) e v s False d h o = refl
sorted-sub (suc k) e v s (Equal t u) d h o =
    let e2 : Sorting = over_vars e v in
    let first : (sorted_term e (bound_in s t) ≡ true) × (own_sort (bound_in s t) ≡ own_sort t) =
    sorted_term-bound e v s t (suits-left (λ n. occurs n t) (λ n. occurs n u) e s v h) (and_first (sorted_term e2 t) (sorted_term e2 u && eqb (own_sort t) (own_sort u)) o) in
    let second : (sorted_term e (bound_in s u) ≡ true) × (own_sort (bound_in s u) ≡ own_sort u) =
    sorted_term-bound e v s u (suits-right (λ n. occurs n t) (λ n. occurs n u) e s v h)
    (and_first (sorted_term e2 u) (eqb (own_sort t) (own_sort u)) (and_second (sorted_term e2 t) (sorted_term e2 u && eqb (own_sort t) (own_sort u)) o)) in
    equal-sorted (sorted_term e (bound_in s t)) (sorted_term e (bound_in s u)) (sorted_term e2 t) (sorted_term e2 u)
    (own_sort (bound_in s t)) (own_sort (bound_in s u)) (own_sort t) (own_sort u) first.0 second.0 first.1 second.1 o
sorted-sub (suc k) e v s (Atom p ts) d h o =
    pred-pass e v p (λ sorts. sorted_terms (over_vars e v) ts sorts) (λ sorts. sorted_terms e (all_bound_in s ts) sorts) (λ sorts q. sorted_terms-bound e v s ts sorts h q) o
sorted-sub (suc k) e v s (Not' _ (one f end)) d h o = sorted-sub k e v s f (omega arith) h o
sorted-sub (suc k) e v s (And' _ (one f end) _ (one g end)) d h o = two_parts e v k s f g (sorted-sub k) (omega arith) (omega arith) h o
sorted-sub (suc k) e v s (Or' _ (one f end) _ (one g end)) d h o = two_parts e v k s f g (sorted-sub k) (omega arith) (omega arith) h o
sorted-sub (suc k) e v s (Imp' _ (one f end) _ (one g end)) d h o = two_parts e v k s f g (sorted-sub k) (omega arith) (omega arith) h o
sorted-sub (suc k) e v s (Iff' _ (one f end) _ (one g end)) d h o = two_parts e v k s f g (sorted-sub k) (omega arith) (omega arith) h o
sorted-sub (suc k) e v s (All' y _ (one f end)) d h o = sorts_below k e v s y f (sorted-sub k) (omega arith) h o
sorted-sub (suc k) e v s (Ex' y _ (one f end)) d h o = sorts_below k e v s y f (sorted-sub k) (omega arith) h o
sorted-sub (suc k) e v s (All2' p _ (one f end)) d h o = sorted-sub k (over_bound e p.num p.args) v s f (omega arith) (suits-bound e v s p.num p.args (λ n. free n f) h) o
sorted-sub (suc k) e v s (Ex2' p _ (one f end)) d h o = sorted-sub k (over_bound e p.num p.args) v s f (omega arith) (suits-bound e v s p.num p.args (λ n. free n f) h) o

-- ---- the sorting of a binding

over_binding-vars : (e : Sorting) (s : List Pair) → over_binding e s ≡ over_vars e (over_binding e s).variable
over_binding-vars e [] = refl
over_binding-vars e (b ∷ more) = λ i. record (over_binding-vars e more i) { variable = changed (over_binding e more).variable b.var.num (Some b.var.sort) }

-- the result is well sorted wherever the terms are, and the formula is where the variables are known
pub sorted-sub_binding : (k : ℕ) (e : Sorting) (s : List Pair) (f : Form) → depth f ≤ k → HasOwnSorts s → AreSorted e s → sorted (over_binding e s) f ≡ true → sorted e (sub k s f) ≡ true
sorted-sub_binding k e s f d own are o =
    sorted-sub k e (over_binding e s).variable s f d (λ x p q. sorted-bound_in e s (var x) own are q) (ap (λ e2. sorted e2 f) (sym (over_binding-vars e s)) ∙ o)

pub has_own_sort : (x : Var) (by : Term) → own_sort by ≡ x.sort → HasOwnSorts (single x by)
has_own_sort x by h = All-cons (λ b. own_sort b.term ≡ b.var.sort) (record { var = x; term = by }) [] h (All-nil (λ b. own_sort b.term ≡ b.var.sort))

pub is_sorted_single : (e : Sorting) (x : Var) (by : Term) → sorted_term e by ≡ true → AreSorted e (single x by)
is_sorted_single e x by h = All-cons (λ b. sorted_term e b.term ≡ true) (record { var = x; term = by }) [] h (All-nil (λ b. sorted_term e b.term ≡ true))
