-- The free variables of what a substitution gives: each is in the term of a free variable of the formula.
use Rattle.std.proofs.Common.{◌≡◌, ℕ, zero, suc, ◌<◌, ◌≤◌, Bool, true, false, cond, eqb, ◌||◌, ⊎_elim, List, None, refl, sym, ◌∙◌, ap, arith}
use Rattle.std.proofs.lemmas.Bool.{eqb-true, both_ways, or_left, or_right, or_cases}
use Rattle.soqe_term.specs.declared.bindings.Bound.{Bound as Pair}
use Rattle.soqe_term.specs.declared.term.Var.{Var}
use Rattle.soqe_term.specs.declared.term.Term.{Term, App, Var as var}
use Rattle.soqe_term.specs.declared.term.Terms.{Terms, Nil, Cons', end_of-Term as end-t, more_of-Term as one-t, end_of-Terms as ends-t, more_of-Terms as ones-t}
use Rattle.soqe_term.specs.Boxes.{boxes as term_boxes}
use Rattle.soqe_term.specs.Occurs.{occurs, occurs_any}
use Rattle.soqe_term.specs.Bindings.{bound_term, term_or, term_of, bound_in, all_bound_in}
use Rattle.soqe_number.proofs.Choices.{bool_cases}
use Rattle.soqe_term.proofs.Worlds.{eqb-self}
use Rattle.soqe_form.specs.declared.form.Form.{Form, True, False, Equal, Atom, Not', And', Or', Imp', Iff', All', Ex', All2', Ex2', end_of-Form as end, more_of-Form as one}
use Rattle.soqe_form.specs.Boxes.{boxes}
use Rattle.soqe_form.specs.Free.{free}
use Rattle.soqe_form.specs.Mentions.{depth}
use Rattle.soqe_subst.specs.Substitution.{without, renamed, fresh, catches, new_binder, new_body, sub}
use Rattle.soqe_term.specs.Renumber.{numbered}
use Rattle.soqe_subst.proofs.Binders.{bound_term-visible, bound_term-new}
use Rattle.soqe_subst.proofs.Renamings.{depth-renamed, depth-positive}
use Rattle.soqe_subst.proofs.Substitutions.{IsFresh, fresh-is}
use Rattle.soqe_subst.proofs.SubstitutedSorts.{free-renamed}

-- what is to be shown of n holds where n is in the term of a variable that passes the test
abbrev pub Reaches : ℕ → (ℕ → Bool) → List Pair → Type 0 → Type 0
Reaches n p s goal = (x : Var) → p x.num ≡ true → occurs n (term_of s x) ≡ true → goal

reaches-left : (n : ℕ) (p q : ℕ → Bool) (s : List Pair) (goal : Type 0) → Reaches n (λ m. p m || q m) s goal → Reaches n p s goal
reaches-left n p q s goal h x o k = h x (or_left (p x.num) (q x.num) o) k

reaches-right : (n : ℕ) (p q : ℕ → Bool) (s : List Pair) (goal : Type 0) → Reaches n (λ m. p m || q m) s goal → Reaches n q s goal
reaches-right n p q s goal h x o k = h x (or_right (p x.num) (q x.num) o) k

mutual
  unfolding term_boxes

  occurs-bound : (n : ℕ) (s : List Pair) (goal : Type 0) (t : Term) → Reaches n (λ m. occurs m t) s goal → occurs n (bound_in s t) ≡ true → goal
  occurs-bound n s goal (var y) h o = h y (eqb-self y.num) o
  occurs-bound n s goal (App f m ts) h o = occurs_any-bound n s goal ts h o

  occurs_any-bound : (n : ℕ) (s : List Pair) (goal : Type 0) (ts : Terms) → Reaches n (λ m. occurs_any m ts) s goal → occurs_any n (all_bound_in s ts) ≡ true → goal
  occurs_any-bound n s goal Nil h o = absurd (both_ways false refl o)
  occurs_any-bound n s goal (Cons' _ (one-t t end-t) _ (ones-t ts ends-t)) h o = ⊎_elim
      (λ q. occurs-bound n s goal t (reaches-left n (λ m. occurs m t) (λ m. occurs_any m ts) s goal h) q)
      (λ q. occurs_any-bound n s goal ts (reaches-right n (λ m. occurs m t) (λ m. occurs_any m ts) s goal h) q)
      (or_cases (occurs n (bound_in s t)) (occurs_any n (all_bound_in s ts)) o)

-- below a binder of another variable z, which has no term
reaches-below : (n z : ℕ) (s s2 : List Pair) (p p2 : ℕ → Bool) (goal : Type 0) → eqb n z ≡ false → bound_term s2 z ≡ None
    → ((m : ℕ) → eqb m z ≡ false → p2 m ≡ true → (p m ≡ true) × (bound_term s2 m ≡ bound_term s m))
    → Reaches n p s goal → Reaches n p2 s2 goal
reaches-below n z s s2 p p2 goal other none known h x o k =
    bool_cases (λ b. eqb x.num z ≡ b → goal) (eqb x.num z)
    (λ _ e.
    let itself : term_of s2 x ≡ var x = ap (λ m. term_or (var x) (bound_term s2 m)) (eqb-true x.num z e) ∙ ap (term_or (var x)) none in
    let is : eqb n x.num ≡ true = sym (ap (occurs n) itself) ∙ k in
    absurd (both_ways (eqb n z) other (ap (λ m. eqb n m) (sym (eqb-true x.num z e)) ∙ is)))
    (λ _ e.
    let was : (p x.num ≡ true) × (bound_term s2 x.num ≡ bound_term s x.num) = known x.num e o in
    h x was.0 (sym (ap (λ t. occurs n (term_or (var x) t)) was.1) ∙ k))
    refl

first_fails : (b c : Bool) → cond b false c ≡ true → b ≡ false
first_fails true c h = sym h
first_fails false c h = refl

rest_holds : (b c : Bool) → cond b false c ≡ true → c ≡ true
rest_holds true c h = absurd (both_ways false refl h)
rest_holds false c h = h

others-known : (s : List Pair) (y : ℕ) (f : Form) (n : ℕ) → cond (eqb n y) false (free n f) ≡ true → (cond (eqb n y) false (free n f) ≡ true) × (bound_term (without y s) n ≡ bound_term s n)
others-known s y f n was =
    (was, bound_term-visible (λ n. eqb n y) n s ∙ ap (λ b. cond b None (bound_term s n)) (first_fails (eqb n y) (free n f) was))

-- in formulas no deeper than k
abbrev Reached : ℕ → Type 1
Reached k = (n : ℕ) (s : List Pair) (goal : Type 0) (g : Form) → depth g ≤ k → Reaches n (λ m. free m g) s goal → free n (sub k s g) ≡ true → goal

below_binder : (k : ℕ) → Reached k → (n : ℕ) (s : List Pair) (goal : Type 0) (y : Var) (f : Form) → depth f ≤ k → Reaches n (λ m. cond (eqb m y.num) false (free m f)) s goal
    → cond (eqb n (new_binder (without y.num s) y f).num) false (free n (sub k (without y.num s) (new_body (without y.num s) y f))) ≡ true → goal
below_binder k reached n s goal y f d h =
    let s2 : List Pair = without y.num s in
    let z : ℕ = fresh s2 f in
    let p : ℕ → Bool = λ m. cond (eqb m y.num) false (free m f) in
    let new : IsFresh s2 f z = fresh-is s2 f in
    bool_cases (λ q. cond (eqb n (cond q (numbered y z) y).num) false (free n (sub k s2 (cond q (renamed y.num (numbered y z) f) f))) ≡ true → goal) (catches s2 y f)
    (λ c o. reached n s2 goal (renamed y.num (numbered y z) f) (omega (arith, depth-renamed y.num (numbered y z) f, d))
    (reaches-below n z s s2 p (λ m. free m (renamed y.num (numbered y z) f)) goal (first_fails (eqb n z) (free n (sub k s2 (renamed y.num (numbered y z) f))) o)
    (bound_term-new z s2 new.not_bound) (λ m e q. others-known s y.num f m (free-renamed m y.num (numbered y z) f e q)) h)
    (rest_holds (eqb n z) (free n (sub k s2 (renamed y.num (numbered y z) f))) o))
    (λ c o. reached n s2 goal f d
    (reaches-below n y.num s s2 p (λ m. free m f) goal (first_fails (eqb n y.num) (free n (sub k s2 f)) o)
    (bound_term-visible (λ n. eqb n y.num) y.num s ∙ ap (λ b. cond b None (bound_term s y.num)) (eqb-self y.num))
    (λ m e q. others-known s y.num f m (ap (λ b. cond b false (free m f)) e ∙ q)) h)
    (rest_holds (eqb n y.num) (free n (sub k s2 f)) o))

two_parts : (k : ℕ) → Reached k → (n : ℕ) (s : List Pair) (goal : Type 0) (f g : Form) → depth f ≤ k → depth g ≤ k → Reaches n (λ m. free m f || free m g) s goal
    → (free n (sub k s f) || free n (sub k s g)) ≡ true → goal
two_parts k reached n s goal f g df dg h o = ⊎_elim
    (λ q. reached n s goal f df (reaches-left n (λ m. free m f) (λ m. free m g) s goal h) q)
    (λ q. reached n s goal g dg (reaches-right n (λ m. free m f) (λ m. free m g) s goal h) q)
    (or_cases (free n (sub k s f)) (free n (sub k s g)) o)

pub free-sub : (k : ℕ) → Reached k
unfolding boxes
free-sub zero n s goal f d h o = let p : 0 < depth f = depth-positive f in absurd (omega arith)
free-sub (suc k) n s goal True d h o = absurd (both_ways false refl o)
free-sub (suc k) n s goal False d h o = absurd (both_ways false refl o)
free-sub (suc k) n s goal (Equal t u) d h o = ⊎_elim
    (λ q. occurs-bound n s goal t (reaches-left n (λ m. occurs m t) (λ m. occurs m u) s goal h) q)
    (λ q. occurs-bound n s goal u (reaches-right n (λ m. occurs m t) (λ m. occurs m u) s goal h) q)
    (or_cases (occurs n (bound_in s t)) (occurs n (bound_in s u)) o)
free-sub (suc k) n s goal (Atom p ts) d h o = occurs_any-bound n s goal ts h o
free-sub (suc k) n s goal (Not' _ (one f end)) d h o = free-sub k n s goal f (omega arith) h o
free-sub (suc k) n s goal (And' _ (one f end) _ (one g end)) d h o = two_parts k (free-sub k) n s goal f g (omega arith) (omega arith) h o
free-sub (suc k) n s goal (Or' _ (one f end) _ (one g end)) d h o = two_parts k (free-sub k) n s goal f g (omega arith) (omega arith) h o
free-sub (suc k) n s goal (Imp' _ (one f end) _ (one g end)) d h o = two_parts k (free-sub k) n s goal f g (omega arith) (omega arith) h o
free-sub (suc k) n s goal (Iff' _ (one f end) _ (one g end)) d h o = two_parts k (free-sub k) n s goal f g (omega arith) (omega arith) h o
free-sub (suc k) n s goal (All' y _ (one f end)) d h o = below_binder k (free-sub k) n s goal y f (omega arith) h o
free-sub (suc k) n s goal (Ex' y _ (one f end)) d h o = below_binder k (free-sub k) n s goal y f (omega arith) h o
free-sub (suc k) n s goal (All2' p _ (one f end)) d h o = free-sub k n s goal f (omega arith) h o
free-sub (suc k) n s goal (Ex2' p _ (one f end)) d h o = free-sub k n s goal f (omega arith) h o
