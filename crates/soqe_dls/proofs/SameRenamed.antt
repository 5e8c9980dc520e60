-- A variable put in place of another one that stands nowhere in the formula gives the same formula, where the two are a pair.
--
use Rattle.std.proofs.Common.{◌≡◌, ℕ, Bool, true, false, cond, eqb, ◌||◌, ◌&&◌, List, [], ◌∷◌, Option, Some, None, refl, sym, ◌∙◌, ap}
use Rattle.std.proofs.lemmas.Bool.{eqb-true, or_left, or_right, and_from}
use Rattle.soqe_term.specs.declared.bindings.Bound.{Bound as Pair}
use Rattle.soqe_term.specs.declared.term.Var.{Var}
use Rattle.soqe_term.specs.declared.term.Term.{Term, Var as var, App}
use Rattle.soqe_term.specs.declared.term.Terms.{Terms, Nil, Cons', end_of-Term as end-t, more_of-Term as one-t, end_of-Terms as ends-t, more_of-Terms as ones-t}
use Rattle.soqe_term.specs.Boxes.{boxes as term_boxes}
use Rattle.soqe_term.specs.Equal.{equal_symbols}
use Rattle.soqe_number.specs.Updates.{changed}
use Rattle.soqe_term.specs.Occurs.{occurs, occurs_any}
use Rattle.soqe_term.specs.Sorting.{Sorting, over_bound, sym_sort, is_sort, own_sort, sorted_term, sorted_terms}
use Rattle.soqe_term.specs.Sorting.{over_vars}
use Rattle.soqe_term.specs.Subst.{replaced, all_replaced}
use Rattle.soqe_term.specs.Bindings.{term_or, term_of, bound_in, all_bound_in}
use Rattle.soqe_number.proofs.Choices.{by_cases, and_first, and_second, or_none_first, or_none_second}
use Rattle.soqe_term.proofs.EqualTerms.{equal_symbols-refl}
use Rattle.soqe_term.proofs.Replaced.{only, replaced-is, all_replaced-is}
use Rattle.soqe_term.proofs.Values.{fun-of, sorts-of}
use Rattle.soqe_term.proofs.Worlds.{changed-off, eqb-self}
use Rattle.soqe_form.specs.declared.form.Pred.{Pred}
use Rattle.soqe_form.specs.declared.form.Form.{Form, True, False, Equal, Atom, Not', And', Or', Imp', Iff', All', Ex', All2', Ex2', end_of-Form as end, more_of-Form as one}
use Rattle.soqe_form.specs.Boxes.{boxes}
use Rattle.soqe_form.specs.Free.{free}
use Rattle.soqe_form.specs.Mentions.{mentions}
use Rattle.soqe_form.specs.Same.{related, same_term, same_terms, same_pred, same_sorts, same_in}
use Rattle.soqe_form.specs.Sorted.{sorted, pred_sorts}
use Rattle.soqe_subst.specs.Substitution.{renamed}
use Rattle.soqe_tidy.specs.Tidy.{tidied}
use Rattle.soqe_form.proofs.Numbers.{eqb-swap}
use Rattle.soqe_form.proofs.SameCases.{never}
use Rattle.soqe_form.proofs.SameNumbers.{Named}
use Rattle.soqe_form.proofs.SameOrder.{IsDiagonal, same_pred-self, same_sorts-from, diagonal-under}
use Rattle.soqe_tidy.proofs.Tidied.{same-tidied}
use Rattle.soqe_form.proofs.SameFronts.{Pairs, lefts, twins, twins-diagonal, same_in-turned, fit-first, same_in-chained}

-- each variable that passes the test and bears its sort in v is named the same as its term
abbrev pub NamesSame : (ℕ → Bool) → Pairs → (ℕ → Option ℕ) → List Pair → Type 0
NamesSame p vs v s = (x : Var) → p x.num ≡ true → is_sort x.sort (v x.num) ≡ true → same_term vs (var x) (term_of s x) ≡ true

pub names-left : (p q : ℕ → Bool) (vs : Pairs) (v : ℕ → Option ℕ) (s : List Pair) → NamesSame (λ n. p n || q n) vs v s → NamesSame p vs v s
names-left p q vs v s h x o k = h x (or_left (p x.num) (q x.num) o) k

pub names-right : (p q : ℕ → Bool) (vs : Pairs) (v : ℕ → Option ℕ) (s : List Pair) → NamesSame (λ n. p n || q n) vs v s → NamesSame q vs v s
names-right p q vs v s h x o k = h x (or_right (p x.num) (q x.num) o) k

-- ---- terms

mutual
  unfolding term_boxes

  pub same_term-bound : (vs : Pairs) (e : Sorting) (v : ℕ → Option ℕ) (s : List Pair) (t : Term) → NamesSame (λ n. occurs n t) vs v s → sorted_term (over_vars e v) t ≡ true
      → same_term vs t (bound_in s t) ≡ true
  same_term-bound vs e v s (var y) h o = h y (eqb-self y.num) o
  same_term-bound vs e v s (App f m ts) h o =
      let k = fun-of (λ sorts. sorted_terms (over_vars e v) ts sorts) m (sym_sort (over_vars e v) f) o in
      and_from (equal_symbols f f) (eqb m m && same_terms vs ts (all_bound_in s ts)) (equal_symbols-refl f)
      (and_from (eqb m m) (same_terms vs ts (all_bound_in s ts)) (eqb-self m) (same_terms-bound vs e v s ts k.kind.args h k.pass))

  pub same_terms-bound : (vs : Pairs) (e : Sorting) (v : ℕ → Option ℕ) (s : List Pair) (ts : Terms) (sorts : List ℕ) → NamesSame (λ n. occurs_any n ts) vs v s
      → sorted_terms (over_vars e v) ts sorts ≡ true → same_terms vs ts (all_bound_in s ts) ≡ true
  same_terms-bound vs e v s Nil [] h o = refl
  same_terms-bound vs e v s Nil (r ∷ sorts) h o = refl
  same_terms-bound vs e v s (Cons' _ (one-t t end-t) _ (ones-t ts ends-t)) [] h o = never o
  same_terms-bound vs e v s (Cons' _ (one-t t end-t) _ (ones-t ts ends-t)) (r ∷ sorts) h o =
      let e2 : Sorting = over_vars e v in
      let rest : (eqb (own_sort t) r && sorted_terms e2 ts sorts) ≡ true = and_second (sorted_term e2 t) (eqb (own_sort t) r && sorted_terms e2 ts sorts) o in
      and_from (same_term vs t (bound_in s t)) (same_terms vs ts (all_bound_in s ts))
      (same_term-bound vs e v s t (names-left (λ n. occurs n t) (λ n. occurs_any n ts) vs v s h) (and_first (sorted_term e2 t) (eqb (own_sort t) r && sorted_terms e2 ts sorts) o))
      (same_terms-bound vs e v s ts sorts (names-right (λ n. occurs n t) (λ n. occurs_any n ts) vs v s h) (and_second (eqb (own_sort t) r) (sorted_terms e2 ts sorts) rest))

pub same_atom-bound : (vs : Pairs) (e : Sorting) (v : ℕ → Option ℕ) (s : List Pair) (p : Pred) (ts : Terms) → NamesSame (λ n. occurs_any n ts) vs v s → sorted (over_vars e v) (Atom p ts) ≡ true
    → same_terms vs ts (all_bound_in s ts) ≡ true
same_atom-bound vs e v s p ts h o =
    let k = sorts-of (λ sorts. sorted_terms (over_vars e v) ts sorts) (pred_sorts (over_vars e v) p) o in
    same_terms-bound vs e v s ts k.sorts h k.pass

-- ---- a formula and itself

-- a formula is the same as itself below pairs by which each of its free variables is named the same as itself
pub same-free_self : (vs ps : Pairs) (f : Form) → Named vs (λ n. n) (λ n. free n f) → IsDiagonal ps → same_in vs ps f f ≡ true
same-free_self vs ps f h k =
    let g : Form = tidied [] (λ n. n) f in
    let ms : List ℕ = lefts vs in
    let ns : List ℕ = lefts ps in
    let there : same_in (twins ms) (twins ns) f g ≡ true =
    same_in-turned ms ns f g ∙ same-tidied (twins ms) (twins ns) [] (λ n. n) f (λ m o. twins-diagonal ms m) (twins-diagonal ns) in
    same_in-chained (twins ms) vs vs (twins ns) ps ps f g f (fit-first vs) (fit-first ps) there (same-tidied vs ps [] (λ n. n) f h k)

-- ---- a variable put in place of another one

-- the number z in place of y
abbrev pub put : ℕ → ℕ → ℕ → ℕ
put y z n = cond (eqb n y) z n

-- each number that passes the test is named the same as what is put in its place
abbrev pub Puts : Pairs → ℕ → ℕ → (ℕ → Bool) → Type 0
Puts vs y z p = (n : ℕ) → p n ≡ true → related vs n (put y z n) ≡ true

puts-left : (vs : Pairs) (y z : ℕ) (p q : ℕ → Bool) → Puts vs y z (λ n. p n || q n) → Puts vs y z p
puts-left vs y z p q h n o = h n (or_left (p n) (q n) o)

puts-right : (vs : Pairs) (y z : ℕ) (p q : ℕ → Bool) → Puts vs y z (λ n. p n || q n) → Puts vs y z q
puts-right vs y z p q h n o = h n (or_right (p n) (q n) o)

sort-is : (r s : ℕ) (o : Option ℕ) → o ≡ Some s → is_sort r o ≡ true → eqb r s ≡ true
sort-is r s o e h = ap (is_sort r) (sym e) ∙ h

names-put : (vs : Pairs) (v : ℕ → Option ℕ) (y : ℕ) (z : Var) (p : ℕ → Bool) → v y ≡ Some z.sort → Puts vs y z.num p → NamesSame p vs v (only y z.sort (var z))
names-put vs v y z p k h x o a =
    by_cases (λ t. same_term vs (var x) (term_or (var x) t) ≡ true) (eqb x.num y) (Some (var z)) None
    (λ q. and_from (eqb x.sort z.sort) (related vs x.num z.num) (sort-is x.sort z.sort (v x.num) (ap v (eqb-true x.num y q) ∙ k) a)
    (ap (λ b. related vs x.num (cond b z.num x.num)) (sym q) ∙ h x.num o))
    (λ q. and_from (eqb x.sort x.sort) (related vs x.num x.num) (eqb-self x.sort)
    (ap (λ b. related vs x.num (cond b z.num x.num)) (sym q) ∙ h x.num o))

replaced-same : (vs : Pairs) (e : Sorting) (v : ℕ → Option ℕ) (y : ℕ) (z : Var) (t : Term) → v y ≡ Some z.sort → Puts vs y z.num (λ n. occurs n t) → sorted_term (over_vars e v) t ≡ true
    → same_term vs t (replaced y (var z) t) ≡ true
replaced-same vs e v y z t k h o =
    ap (same_term vs t) (replaced-is y z.sort (var z) t) ∙ same_term-bound vs e v (only y z.sort (var z)) t (names-put vs v y z (λ n. occurs n t) k h) o

related-step : (b c d : Bool) → b ≡ c → (c ≡ false → d ≡ true) → cond (b || c) (b && c) d ≡ true
related-step true true d e h = refl
related-step true false d e h = never (sym e)
related-step false true d e h = never e
related-step false false d e h = h refl

under : (b c : Bool) → b ≡ false → c ≡ true → cond b false c ≡ true
under b c e h = ap (λ q. cond q false c) e ∙ h

-- below a binder of y nothing is put in place of y
named-below : (vs : Pairs) (x y z : ℕ) (p : ℕ → Bool) → eqb x y ≡ true → Puts vs y z (λ n. cond (eqb n x) false (p n)) → Named ((x, x) ∷ vs) (λ n. n) p
named-below vs x y z p e h n o =
    related-step (eqb n x) (eqb n x) (related vs n n) refl
    (λ q. ap (λ b. related vs n (cond b z n)) (sym (ap (eqb n) (sym (eqb-true x y e)) ∙ q)) ∙ h n (under (eqb n x) (p n) q o))

-- below a binder of another variable, which is not z
puts-below : (vs : Pairs) (x y z : ℕ) (p : ℕ → Bool) → eqb x y ≡ false → eqb z x ≡ false → Puts vs y z (λ n. cond (eqb n x) false (p n)) → Puts ((x, x) ∷ vs) y z p
puts-below vs x y z p e d h n o =
    related-step (eqb n x) (eqb (put y z n) x) (related vs n (put y z n))
    (by_cases (λ m. eqb n x ≡ eqb m x) (eqb n y) z n (λ q. ap (λ m. eqb m x) (eqb-true n y q) ∙ eqb-swap x y e ∙ sym d) (λ q. refl))
    (λ q. h n (under (eqb n x) (p n) (by_cases (λ m. eqb m x ≡ false → eqb n x ≡ false) (eqb n y) z n (λ r u. ap (λ m. eqb m x) (eqb-true n y r) ∙ eqb-swap x y e) (λ r u. u) q) o))

-- a renamed formula is the same below pairs by which each of its free variables is named the same as what is put in its place
abbrev RenamedIsSame : Pairs → Pairs → Sorting → (ℕ → Option ℕ) → ℕ → Var → Form → Type 0
RenamedIsSame vs ps e v y z f =
    mentions z.num f ≡ false → IsDiagonal ps → v y ≡ Some z.sort → Puts vs y z.num (λ n. free n f) → sorted (over_vars e v) f ≡ true → same_in vs ps f (renamed y z f) ≡ true

two-renamed : (vs ps : Pairs) (e : Sorting) (v : ℕ → Option ℕ) (y : ℕ) (z : Var) (f g : Form) → RenamedIsSame vs ps e v y z f → RenamedIsSame vs ps e v y z g
    → (mentions z.num f || mentions z.num g) ≡ false → IsDiagonal ps → v y ≡ Some z.sort → Puts vs y z.num (λ n. free n f || free n g) → (sorted (over_vars e v) f && sorted (over_vars e v) g) ≡ true
    → (same_in vs ps f (renamed y z f) && same_in vs ps g (renamed y z g)) ≡ true
two-renamed vs ps e v y z f g a b m d k h o =
    and_from (same_in vs ps f (renamed y z f)) (same_in vs ps g (renamed y z g))
    (a (or_none_first (mentions z.num f) (mentions z.num g) m) d k (puts-left vs y z.num (λ n. free n f) (λ n. free n g) h) (and_first (sorted (over_vars e v) f) (sorted (over_vars e v) g) o))
    (b (or_none_second (mentions z.num f) (mentions z.num g) m) d k (puts-right vs y z.num (λ n. free n f) (λ n. free n g) h) (and_second (sorted (over_vars e v) f) (sorted (over_vars e v) g) o))

renamed-below : (vs ps : Pairs) (e : Sorting) (v : ℕ → Option ℕ) (y : ℕ) (z x : Var) (f : Form) → RenamedIsSame ((x.num, x.num) ∷ vs) ps e (changed v x.num (Some x.sort)) y z f
    → (eqb z.num x.num || mentions z.num f) ≡ false → IsDiagonal ps → v y ≡ Some z.sort → Puts vs y z.num (λ n. cond (eqb n x.num) false (free n f))
    → sorted (over_vars e (changed v x.num (Some x.sort))) f ≡ true
    → (eqb x.sort x.sort && same_in ((x.num, x.num) ∷ vs) ps f (cond (eqb x.num y) f (renamed y z f))) ≡ true
renamed-below vs ps e v y z x f a m d k h o =
    and_from (eqb x.sort x.sort) (same_in ((x.num, x.num) ∷ vs) ps f (cond (eqb x.num y) f (renamed y z f))) (eqb-self x.sort)
    (by_cases (λ g. same_in ((x.num, x.num) ∷ vs) ps f g ≡ true) (eqb x.num y) f (renamed y z f)
    (λ q. same-free_self ((x.num, x.num) ∷ vs) ps f (named-below vs x.num y z.num (λ n. free n f) q h) d)
    (λ q. a (or_none_second (eqb z.num x.num) (mentions z.num f) m) d (changed-off v x.num y (Some x.sort) (eqb-swap x.num y q) ∙ k)
    (puts-below vs x.num y z.num (λ n. free n f) q (or_none_first (eqb z.num x.num) (mentions z.num f) m) h) o))

pub same-renamed : (vs ps : Pairs) (e : Sorting) (v : ℕ → Option ℕ) (y : ℕ) (z : Var) (f : Form) → RenamedIsSame vs ps e v y z f
unfolding boxes
same-renamed vs ps e v y z True m d k h o = refl
same-renamed vs ps e v y z False m d k h o = refl
same-renamed vs ps e v y z (Equal s t) m d k h o =
    let e2 : Sorting = over_vars e v in
    let rest : (sorted_term e2 t && eqb (own_sort s) (own_sort t)) ≡ true = and_second (sorted_term e2 s) (sorted_term e2 t && eqb (own_sort s) (own_sort t)) o in
    and_from (same_term vs s (replaced y (var z) s)) (same_term vs t (replaced y (var z) t))
    (replaced-same vs e v y z s k (puts-left vs y z.num (λ n. occurs n s) (λ n. occurs n t) h) (and_first (sorted_term e2 s) (sorted_term e2 t && eqb (own_sort s) (own_sort t)) o))
    (replaced-same vs e v y z t k (puts-right vs y z.num (λ n. occurs n s) (λ n. occurs n t) h) (and_first (sorted_term e2 t) (eqb (own_sort s) (own_sort t)) rest))
same-renamed vs ps e v y z (Atom p ts) m d k h o =
    and_from (same_pred ps p p) (same_terms vs ts (all_replaced y (var z) ts)) (same_pred-self ps p d)
    (ap (same_terms vs ts) (all_replaced-is y z.sort (var z) ts) ∙ same_atom-bound vs e v (only y z.sort (var z)) p ts (names-put vs v y z (λ n. occurs_any n ts) k h) o)
same-renamed vs ps e v y z (Not' _ (one f end)) m d k h o = same-renamed vs ps e v y z f m d k h o
same-renamed vs ps e v y z (And' _ (one f end) _ (one g end)) m d k h o = two-renamed vs ps e v y z f g (same-renamed vs ps e v y z f) (same-renamed vs ps e v y z g) m d k h o
same-renamed vs ps e v y z (Or' _ (one f end) _ (one g end)) m d k h o = two-renamed vs ps e v y z f g (same-renamed vs ps e v y z f) (same-renamed vs ps e v y z g) m d k h o
same-renamed vs ps e v y z (Imp' _ (one f end) _ (one g end)) m d k h o = two-renamed vs ps e v y z f g (same-renamed vs ps e v y z f) (same-renamed vs ps e v y z g) m d k h o
same-renamed vs ps e v y z (Iff' _ (one f end) _ (one g end)) m d k h o = two-renamed vs ps e v y z f g (same-renamed vs ps e v y z f) (same-renamed vs ps e v y z g) m d k h o
same-renamed vs ps e v y z (All' x _ (one f end)) m d k h o =
    renamed-below vs ps e v y z x f (same-renamed ((x.num, x.num) ∷ vs) ps e (changed v x.num (Some x.sort)) y z f) m d k h o
same-renamed vs ps e v y z (Ex' x _ (one f end)) m d k h o =
    renamed-below vs ps e v y z x f (same-renamed ((x.num, x.num) ∷ vs) ps e (changed v x.num (Some x.sort)) y z f) m d k h o
same-renamed vs ps e v y z (All2' p _ (one f end)) m d k h o =
    and_from (same_sorts p p) (same_in vs ((p.num, p.num) ∷ ps) f (renamed y z f)) (same_sorts-from p p refl)
    (same-renamed vs ((p.num, p.num) ∷ ps) (over_bound e p.num p.args) v y z f m (diagonal-under ps p.num d) k h o)
same-renamed vs ps e v y z (Ex2' p _ (one f end)) m d k h o =
    and_from (same_sorts p p) (same_in vs ((p.num, p.num) ∷ ps) f (renamed y z f)) (same_sorts-from p p refl)
    (same-renamed vs ((p.num, p.num) ∷ ps) (over_bound e p.num p.args) v y z f m (diagonal-under ps p.num d) k h o)
