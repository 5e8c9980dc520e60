-- Free variables replaced by variables give the same formula, where each of them is a pair with what takes its place.
--
--
-- The sorts of variables with which the formula is well sorted are v: a variable that bears another sort than its own is not
-- the same as what takes its place. A binder that catches nothing makes a pair with itself, and no other term has its variable.
-- The body of a binder that gets a new number is first renamed, which gives the same formula below the pair of both numbers;
-- what the substitution makes of that is the same below the pair of the new number with itself; and to be the same is transitive.
use Rattle.std.proofs.Common.{◌≡◌, ℕ, zero, suc, ◌<◌, ◌≤◌, Bool, true, false, cond, eqb, ◌||◌, ◌&&◌, List, ◌∷◌, Option, Some, None, refl, sym, ◌∙◌, ap, arith}
use Rattle.std.proofs.lemmas.Bool.{eqb-true, ne_eqb, both_ways, and_from}
use Rattle.soqe_term.specs.declared.bindings.Bound.{Bound as Pair}
use Rattle.soqe_term.specs.declared.term.Var.{Var}
use Rattle.soqe_term.specs.declared.term.Term.{Term, Var as var, App}
use Rattle.soqe_number.specs.Updates.{changed}
use Rattle.soqe_term.specs.Occurs.{occurs}
use Rattle.soqe_term.specs.Sorting.{Sorting, over_var, over_bound, is_sort, own_sort, sorted_term}
use Rattle.soqe_term.specs.Sorting.{over_vars}
use Rattle.soqe_term.specs.Bindings.{bound_term, term_or, term_of, bound_in, all_bound_in}
use Rattle.soqe_number.proofs.Choices.{bool_cases, and_first, and_second}
use Rattle.soqe_term.proofs.Worlds.{changed-at, agree_changed, eqb-self}
use Rattle.soqe_form.specs.declared.form.Form.{Form, True, False, Equal, Atom, Not', And', Or', Imp', Iff', All', Ex', All2', Ex2', end_of-Form as end, more_of-Form as one}
use Rattle.soqe_form.specs.Boxes.{boxes}
use Rattle.soqe_form.specs.Free.{free}
use Rattle.soqe_form.specs.Mentions.{mentions, depth}
use Rattle.soqe_form.specs.Same.{related, same_term, same_terms, same_pred, same_sorts, same_in}
use Rattle.soqe_form.specs.Sorted.{sorted}
use Rattle.soqe_subst.specs.Substitution.{without, renamed, fresh, catches, new_binder, new_body, sub}
use Rattle.soqe_term.specs.Renumber.{numbered}
use Rattle.soqe_subst.proofs.Binders.{bound_term-visible, bound_term-new, occurs-uncaught, occurs-new}
use Rattle.soqe_subst.proofs.Renamings.{depth-renamed, depth-positive, free-mentions}
use Rattle.soqe_form.proofs.Numbers.{eqb-swap}
use Rattle.soqe_form.proofs.SameCases.{never}
use Rattle.soqe_form.proofs.SameOrder.{IsDiagonal, same_pred-self, same_sorts-from, diagonal-under}
use Rattle.soqe_form.proofs.Sortings.{sorted-agree}
use Rattle.soqe_subst.proofs.SubstitutedSorts.{sorted-renamed, others-kept, others-renamed}
use Rattle.soqe_subst.proofs.Substitutions.{IsFresh, fresh-is}
use Rattle.soqe_form.proofs.SameFronts.{Pairs, lefts, twins, twins-diagonal, fit-first, fit-under, same_in-chained}
use Rattle.soqe_dls.proofs.SameRenamed.{NamesSame, names-left, names-right, same_term-bound, same_atom-bound, Puts, same-renamed}

-- ---- one more pair

pub off_pair : (b c d : Bool) → b ≡ false → c ≡ false → d ≡ true → cond (b || c) (b && c) d ≡ true
off_pair b c d p q h = λ i. cond (p i || q i) (p i && q i) (h i)

pub at_pair : (b c d : Bool) → b ≡ true → c ≡ true → cond (b || c) (b && c) d ≡ true
at_pair b c d p q = λ i. cond (p i || q i) (p i && q i) d

-- a variable that has the number of neither
term-off : (vs : Pairs) (x : Var) (a b : ℕ) (t : Term) → eqb x.num a ≡ false → occurs b t ≡ false → same_term vs (var x) t ≡ true → same_term ((a, b) ∷ vs) (var x) t ≡ true
term-off vs x a b (var u) p q h =
    and_from (eqb x.sort u.sort) (related ((a, b) ∷ vs) x.num u.num) (and_first (eqb x.sort u.sort) (related vs x.num u.num) h)
    (off_pair (eqb x.num a) (eqb u.num b) (related vs x.num u.num) p (eqb-swap b u.num q) (and_second (eqb x.sort u.sort) (related vs x.num u.num) h))
term-off vs x a b (App f m ts) p q h = never h

-- one more variable z, which has no term and is in none
names-under : (vs : Pairs) (v : ℕ → Option ℕ) (s s2 : List Pair) (p p2 : ℕ → Bool) (z r : ℕ) → bound_term s2 z ≡ None
    → ((n : ℕ) → eqb n z ≡ false → p2 n ≡ true → (p n ≡ true) × (bound_term s2 n ≡ bound_term s n))
    → ((x : Var) → p2 x.num ≡ true → eqb x.num z ≡ false → occurs z (term_of s2 x) ≡ false)
    → NamesSame p vs v s → NamesSame p2 ((z, z) ∷ vs) (changed v z (Some r)) s2
names-under vs v s s2 p p2 z r none others new h x o k =
    bool_cases (λ b. eqb x.num z ≡ b → same_term ((z, z) ∷ vs) (var x) (term_of s2 x) ≡ true) (eqb x.num z)
    (λ u q.
    let itself : term_of s2 x ≡ var x = ap (λ n. term_or (var x) (bound_term s2 n)) (eqb-true x.num z q) ∙ ap (term_or (var x)) none in
    ap (same_term ((z, z) ∷ vs) (var x)) itself
    ∙ and_from (eqb x.sort x.sort) (related ((z, z) ∷ vs) x.num x.num) (eqb-self x.sort) (at_pair (eqb x.num z) (eqb x.num z) (related vs x.num x.num) q q))
    (λ u q.
    let known : (p x.num ≡ true) × (bound_term s2 x.num ≡ bound_term s x.num) = others x.num q o in
    let old : same_term vs (var x) (term_of s x) ≡ true = h x known.0 (sym (ap (λ b. is_sort x.sort (cond b (Some r) (v x.num))) q) ∙ k) in
    let same : term_of s2 x ≡ term_of s x = ap (term_or (var x)) known.1 in
    term-off vs x z z (term_of s2 x) q (new x o q) (ap (same_term vs (var x)) same ∙ old))
    refl

-- ---- binders

-- in formulas no deeper than k
abbrev SubIsSame : ℕ → Type 0
SubIsSame k = (vs ps : Pairs) (e : Sorting) (v : ℕ → Option ℕ) (s : List Pair) (g : Form) → depth g ≤ k → IsDiagonal ps → NamesSame (λ n. free n g) vs v s → sorted (over_vars e v) g ≡ true
    → same_in vs ps g (sub k s g) ≡ true

kept_same : (k : ℕ) (vs ps : Pairs) (e : Sorting) (v : ℕ → Option ℕ) (s : List Pair) (y : Var) (f : Form) → SubIsSame k → depth f ≤ k → IsDiagonal ps
    → NamesSame (λ n. cond (eqb n y.num) false (free n f)) vs v s → sorted (over_vars e (changed v y.num (Some y.sort))) f ≡ true → catches (without y.num s) y f ≡ false
    → same_in ((y.num, y.num) ∷ vs) ps f (sub k (without y.num s) f) ≡ true
kept_same k vs ps e v s y f keeps d diagonal h o c =
    keeps ((y.num, y.num) ∷ vs) ps e (changed v y.num (Some y.sort)) (without y.num s) f d diagonal
    (names-under vs v s (without y.num s) (λ n. cond (eqb n y.num) false (free n f)) (λ n. free n f) y.num y.sort
    (bound_term-visible (λ n. eqb n y.num) y.num s ∙ ap (λ b. cond b None (bound_term s y.num)) (eqb-self y.num))
    (others-kept s y.num f)
    (λ x p q. occurs-uncaught y.num (λ n. free n f) (without y.num s) x c p (eqb-swap x.num y.num q)) h) o

-- a number that stands nowhere in the formula, in place of y
new_put : (vs : Pairs) (y z : ℕ) (f : Form) → IsDiagonal vs → mentions z f ≡ false → Puts ((y, z) ∷ vs) y z (λ n. free n f)
new_put vs y z f same new n o =
    bool_cases (λ b. eqb n y ≡ b → related ((y, z) ∷ vs) n (cond b z n) ≡ true) (eqb n y)
    (λ u q. at_pair (eqb n y) (eqb z z) (related vs n z) q (eqb-self z))
    (λ u q. off_pair (eqb n y) (eqb n z) (related vs n n) q (ne_eqb n z (λ e. both_ways (free n f) (ap (λ m. free m f) e ∙ free-mentions z f new) o)) (same n))
    refl

renamed_same : (k : ℕ) (vs ps : Pairs) (e : Sorting) (v : ℕ → Option ℕ) (s : List Pair) (y : Var) (f : Form) (z : ℕ) → SubIsSame k → depth f ≤ k → IsDiagonal ps
    → NamesSame (λ n. cond (eqb n y.num) false (free n f)) vs v s → sorted (over_vars e (changed v y.num (Some y.sort))) f ≡ true → IsFresh (without y.num s) f z
    → same_in ((y.num, z) ∷ vs) ps f (sub k (without y.num s) (renamed y.num (numbered y z) f)) ≡ true
renamed_same k vs ps e v s y f z keeps d diagonal h o new =
    let g : Form = renamed y.num (numbered y z) f in
    let s2 : List Pair = without y.num s in
    let d2 : depth g ≤ k = omega (arith, depth-renamed y.num (numbered y z) f) in
    let both : sorted (over_var (over_var (over_vars e v) z y.sort) y.num y.sort) f ≡ true =
    sorted-agree e (changed (changed v z (Some y.sort)) y.num (Some y.sort)) (changed v y.num (Some y.sort)) e.bound e.bound f
    (λ n q. ap (λ d. cond (eqb n y.num) (Some y.sort) d) (agree_changed (λ n. free n f) v z (Some y.sort) (free-mentions z f new.not_in) n q)) (λ n q. refl)
    ∙ o in
    let us : Pairs = twins (lefts vs) in
    let first : same_in ((y.num, z) ∷ us) (twins (lefts ps)) f g ≡ true =
    same-renamed ((y.num, z) ∷ us) (twins (lefts ps)) e (changed v y.num (Some y.sort)) y.num (numbered y z) f new.not_in (twins-diagonal (lefts ps)) (changed-at v y.num (Some y.sort))
    (new_put us y.num z f (twins-diagonal (lefts vs)) new.not_in) o in
    let second : same_in ((z, z) ∷ vs) ps g (sub k s2 g) ≡ true =
    keeps ((z, z) ∷ vs) ps e (changed v z (Some y.sort)) s2 g d2 diagonal
    (names-under vs v s s2 (λ n. cond (eqb n y.num) false (free n f)) (λ n. free n g) z y.sort
    (bound_term-new z s2 new.not_bound)
    (others-renamed s y.num (numbered y z) f)
    (λ x p q. occurs-new z s2 x new.not_bound (eqb-swap x.num z q)) h)
    (sorted-renamed (over_var (over_vars e v) z y.sort) y.num (numbered y z) f new.not_in (changed-at v z (Some y.sort)) both) in
    same_in-chained ((y.num, z) ∷ us) ((z, z) ∷ vs) ((y.num, z) ∷ vs) (twins (lefts ps)) ps ps f g (sub k s2 g)
    (fit-under us vs vs y.num z z (fit-first vs)) (fit-first ps) first second

same_below : (k : ℕ) (vs ps : Pairs) (e : Sorting) (v : ℕ → Option ℕ) (s : List Pair) (y : Var) (f : Form) → SubIsSame k → depth f ≤ k → IsDiagonal ps
    → NamesSame (λ n. cond (eqb n y.num) false (free n f)) vs v s → sorted (over_vars e (changed v y.num (Some y.sort))) f ≡ true
    → (eqb y.sort (new_binder (without y.num s) y f).sort && same_in ((y.num, (new_binder (without y.num s) y f).num) ∷ vs) ps f (sub k (without y.num s) (new_body (without y.num s) y f))) ≡ true
same_below k vs ps e v s y f keeps d diagonal h o =
    let s2 : List Pair = without y.num s in
    let z : ℕ = fresh s2 f in
    bool_cases (λ q. (eqb y.sort (cond q (numbered y z) y).sort && same_in ((y.num, (cond q (numbered y z) y).num) ∷ vs) ps f (sub k s2 (cond q (renamed y.num (numbered y z) f) f))) ≡ true) (catches s2 y f)
    (λ c. and_from (eqb y.sort y.sort) (same_in ((y.num, z) ∷ vs) ps f (sub k s2 (renamed y.num (numbered y z) f))) (eqb-self y.sort)
    (renamed_same k vs ps e v s y f z keeps d diagonal h o (fresh-is s2 f)))
    (λ c. and_from (eqb y.sort y.sort) (same_in ((y.num, y.num) ∷ vs) ps f (sub k s2 f)) (eqb-self y.sort)
    (kept_same k vs ps e v s y f keeps d diagonal h o c))

-- ---- the formula

two_same : (k : ℕ) (vs ps : Pairs) (e : Sorting) (v : ℕ → Option ℕ) (s : List Pair) (f g : Form) → SubIsSame k → depth f ≤ k → depth g ≤ k → IsDiagonal ps
    → NamesSame (λ n. free n f || free n g) vs v s → (sorted (over_vars e v) f && sorted (over_vars e v) g) ≡ true
    → (same_in vs ps f (sub k s f) && same_in vs ps g (sub k s g)) ≡ true
two_same k vs ps e v s f g keeps df dg diagonal h o =
    and_from (same_in vs ps f (sub k s f)) (same_in vs ps g (sub k s g))
    (keeps vs ps e v s f df diagonal (names-left (λ n. free n f) (λ n. free n g) vs v s h) (and_first (sorted (over_vars e v) f) (sorted (over_vars e v) g) o))
    (keeps vs ps e v s g dg diagonal (names-right (λ n. free n f) (λ n. free n g) vs v s h) (and_second (sorted (over_vars e v) f) (sorted (over_vars e v) g) o))

pub same-sub : (k : ℕ) → SubIsSame k
unfolding boxes
same-sub zero vs ps e v s f d a h o = let p : 0 < depth f = depth-positive f in absurd (omega arith)
same-sub (suc k) vs ps e v s True d a h o = refl
same-sub (suc k) vs ps e v s False d a h o = refl
same-sub (suc k) vs ps e v s (Equal t u) d a h o =
    let e2 : Sorting = over_vars e v in
    let rest : (sorted_term e2 u && eqb (own_sort t) (own_sort u)) ≡ true = and_second (sorted_term e2 t) (sorted_term e2 u && eqb (own_sort t) (own_sort u)) o in
    and_from (same_term vs t (bound_in s t)) (same_term vs u (bound_in s u))
    (same_term-bound vs e v s t (names-left (λ n. occurs n t) (λ n. occurs n u) vs v s h) (and_first (sorted_term e2 t) (sorted_term e2 u && eqb (own_sort t) (own_sort u)) o))
    (same_term-bound vs e v s u (names-right (λ n. occurs n t) (λ n. occurs n u) vs v s h) (and_first (sorted_term e2 u) (eqb (own_sort t) (own_sort u)) rest))
same-sub (suc k) vs ps e v s (Atom p ts) d a h o =
    and_from (same_pred ps p p) (same_terms vs ts (all_bound_in s ts)) (same_pred-self ps p a) (same_atom-bound vs e v s p ts h o)
same-sub (suc k) vs ps e v s (Not' _ (one f end)) d a h o = same-sub k vs ps e v s f (omega arith) a h o
same-sub (suc k) vs ps e v s (And' _ (one f end) _ (one g end)) d a h o = two_same k vs ps e v s f g (same-sub k) (omega arith) (omega arith) a h o
same-sub (suc k) vs ps e v s (Or' _ (one f end) _ (one g end)) d a h o = two_same k vs ps e v s f g (same-sub k) (omega arith) (omega arith) a h o
same-sub (suc k) vs ps e v s (Imp' _ (one f end) _ (one g end)) d a h o = two_same k vs ps e v s f g (same-sub k) (omega arith) (omega arith) a h o
same-sub (suc k) vs ps e v s (Iff' _ (one f end) _ (one g end)) d a h o = two_same k vs ps e v s f g (same-sub k) (omega arith) (omega arith) a h o
same-sub (suc k) vs ps e v s (All' y _ (one f end)) d a h o = same_below k vs ps e v s y f (same-sub k) (omega arith) a h o
same-sub (suc k) vs ps e v s (Ex' y _ (one f end)) d a h o = same_below k vs ps e v s y f (same-sub k) (omega arith) a h o
same-sub (suc k) vs ps e v s (All2' p _ (one f end)) d a h o =
    and_from (same_sorts p p) (same_in vs ((p.num, p.num) ∷ ps) f (sub k s f)) (same_sorts-from p p refl)
    (same-sub k vs ((p.num, p.num) ∷ ps) (over_bound e p.num p.args) v s f (omega arith) (diagonal-under ps p.num a) h o)
same-sub (suc k) vs ps e v s (Ex2' p _ (one f end)) d a h o =
    and_from (same_sorts p p) (same_in vs ((p.num, p.num) ∷ ps) f (sub k s f)) (same_sorts-from p p refl)
    (same-sub k vs ((p.num, p.num) ∷ ps) (over_bound e p.num p.args) v s f (omega arith) (diagonal-under ps p.num a) h o)
