-- A predicate, declared or bound, in a world and in a formula: a formula in which it is not free doesn't depend on its table.
use Rattle.std.proofs.Common.{◌≡◌, ℕ, Bool, true, false, cond, eqb, not, ◌||◌, ◌&&◌, map, List, ◌∷◌, refl, sym, ◌∙◌, ap}
use Rattle.std.proofs.lemmas.Bool.{eqb-true}
use Rattle.soqe_term.specs.declared.term.Sym.TheVariants.{Fun, Skolem}
use Rattle.soqe_term.specs.declared.term.Term.{Term, Var as var, App}
use Rattle.soqe_term.specs.declared.term.Terms.{Terms, Nil, Cons', end_of-Term as end-t, more_of-Term as one-t, end_of-Terms as ends-t, more_of-Terms as ones-t}
use Rattle.soqe_term.specs.World.{World, with_var, with_bound}
use Rattle.soqe_term.specs.Value.{value, values}
use Rattle.soqe_number.specs.Finite.{every, some, every_list, some_list, product, entry}
use Rattle.soqe_number.proofs.Choices.{bool_cases, or_none_first, or_none_second}
use Rattle.soqe_term.proofs.Worlds.{changed-at, changed-off, changed-commutes, changed-again, eqb-self}
use Rattle.soqe_form.specs.declared.form.Pred.{Pred}
use Rattle.soqe_form.specs.declared.form.Pred.TheVariants.{Decl, Bound}
use Rattle.soqe_form.specs.declared.form.Form.{Form, True, False, Equal, Atom, Not', And', Or', Imp', Iff', All', Ex', All2', Ex2', end_of-Form as end, more_of-Form as one}
use Rattle.soqe_form.specs.Truth.{truth, holds, alike}
use Rattle.soqe_form.specs.Free.{free_pred, is_bound}
use Rattle.soqe_form.specs.FreePreds.{same_pred, hides, has_free, with_pred}
use Rattle.soqe_form.proofs.Numbers.{eqb-swap}

pub same_pred-self : (q : Pred) → same_pred q q ≡ true
same_pred-self (Decl n) = eqb-self n
same_pred-self (Bound n) = eqb-self n

pub same_pred-true : (q p : Pred) → same_pred q p ≡ true → q ≡ p
same_pred-true (Decl m) (Decl n) h = ap Decl (eqb-true m n h)
same_pred-true (Bound m) (Bound n) h = ap Bound (eqb-true m n h)
same_pred-true (Decl m) (Bound n) h = let h : false ≡ true = h in cc
same_pred-true (Bound m) (Decl n) h = let h : false ≡ true = h in cc

-- ---- the table of one predicate

pub holds-with_pred : (w : World) (q : Pred) (t : List ℕ → Bool) → holds (with_pred w q t) q ≡ t
holds-with_pred w (Decl n) t = changed-at w.declared n t
holds-with_pred w (Bound n) t = changed-at w.bound n t

pub holds-other : (w : World) (q p : Pred) (t : List ℕ → Bool) → same_pred q p ≡ false → holds (with_pred w q t) p ≡ holds w p
holds-other w (Decl m) (Decl n) t h = changed-off w.declared m n t (eqb-swap m n h)
holds-other w (Bound m) (Bound n) t h = changed-off w.bound m n t (eqb-swap m n h)
holds-other w (Decl m) (Bound n) t h = refl
holds-other w (Bound m) (Decl n) t h = refl

-- the predicate, where another bound predicate has another table
pub holds-beside : (w : World) (q : Pred) (n : ℕ) (s : List ℕ → Bool) → hides n q ≡ false → holds (with_bound w n s) q ≡ holds w q
holds-beside w (Decl m) n s h = refl
holds-beside w (Bound m) n s h = changed-off w.bound n m s h

pub with_pred-commutes : (w : World) (q : Pred) (t : List ℕ → Bool) (n : ℕ) (s : List ℕ → Bool) → hides n q ≡ false → with_bound (with_pred w q t) n s ≡ with_pred (with_bound w n s) q t
with_pred-commutes w (Decl m) t n s h = refl
with_pred-commutes w (Bound m) t n s h = λ i. record w { bound = changed-commutes w.bound m n t s h i }

-- below a binder that hides the predicate
pub with_pred-hidden : (w : World) (q : Pred) (t : List ℕ → Bool) (n : ℕ) (s : List ℕ → Bool) → hides n q ≡ true → with_bound (with_pred w q t) n s ≡ with_bound w n s
with_pred-hidden w (Decl m) t n s h = let h : false ≡ true = h in cc
with_pred-hidden w (Bound m) t n s h =
    ap (λ k. with_bound (with_bound w k t) n s) (eqb-true m n h) ∙ (λ i. record w { bound = changed-again w.bound n t s i })

-- ---- values and truth

mutual
  -- a term's value doesn't depend on predicates
  pub value-tables : (w : World) (d b : ℕ → List ℕ → Bool) (t : Term) → value (record w { declared = d; bound = b }) t ≡ value w t
  value-tables w d b (var x) = refl
  value-tables w d b (App (Fun n) s ts) = ap (w.fun n) (values-tables w d b ts)
  value-tables w d b (App (Skolem n) s ts) = ap (w.skolem n) (values-tables w d b ts)

  pub values-tables : (w : World) (d b : ℕ → List ℕ → Bool) (ts : Terms) → values (record w { declared = d; bound = b }) ts ≡ values w ts
  values-tables w d b Nil = refl
  values-tables w d b (Cons' _ (one-t t end-t) _ (ones-t ts ends-t)) = λ i. value-tables w d b t i ∷ values-tables w d b ts i

pub value-with_pred : (w : World) (q : Pred) (t : List ℕ → Bool) (s : Term) → value (with_pred w q t) s ≡ value w s
value-with_pred w q t s = value-tables w (with_pred w q t).declared (with_pred w q t).bound s

pub values-with_pred : (w : World) (q : Pred) (t : List ℕ → Bool) (ts : Terms) → values (with_pred w q t) ts ≡ values w ts
values-with_pred w q t ts = values-tables w (with_pred w q t).declared (with_pred w q t).bound ts

-- what is free below a binder that doesn't hide it
pub shown : (b c : Bool) → b ≡ false → cond b false c ≡ false → c ≡ false
shown b c e h = sym (ap (λ b. cond b false c) e) ∙ h

below_pred : (w : World) (q : Pred) (t : List ℕ → Bool) (n : ℕ) (s : List ℕ → Bool) (f : Form)
    → (hides n q ≡ false → truth (with_pred (with_bound w n s) q t) f ≡ truth (with_bound w n s) f) → truth (with_bound (with_pred w q t) n s) f ≡ truth (with_bound w n s) f
below_pred w q t n s f h =
    bool_cases (λ b. hides n q ≡ b → truth (with_bound (with_pred w q t) n s) f ≡ truth (with_bound w n s) f) (hides n q)
    (λ _ e. ap (λ v. truth v f) (with_pred-hidden w q t n s e))
    (λ _ e. ap (λ v. truth v f) (with_pred-commutes w q t n s e) ∙ h e)
    refl

-- the table of a predicate that is not free
pub truth-unchanged : (w : World) (q : Pred) (t : List ℕ → Bool) (f : Form) → has_free q f ≡ false → truth (with_pred w q t) f ≡ truth w f
truth-unchanged w q t True h = refl
truth-unchanged w q t False h = refl
truth-unchanged w q t (Equal s u) h = λ i. eqb (value-with_pred w q t s i) (value-with_pred w q t u i)
truth-unchanged w q t (Atom p ts) h =
    ap (holds (with_pred w q t) p) (values-with_pred w q t ts) ∙ (λ i. holds-other w q p t h i (values w ts))
truth-unchanged w q t (Not' _ (one f end)) h = ap not (truth-unchanged w q t f h)
truth-unchanged w q t (And' _ (one f end) _ (one g end)) h =
    λ i. truth-unchanged w q t f (or_none_first (has_free q f) (has_free q g) h) i && truth-unchanged w q t g (or_none_second (has_free q f) (has_free q g) h) i
truth-unchanged w q t (Or' _ (one f end) _ (one g end)) h =
    λ i. truth-unchanged w q t f (or_none_first (has_free q f) (has_free q g) h) i || truth-unchanged w q t g (or_none_second (has_free q f) (has_free q g) h) i
truth-unchanged w q t (Imp' _ (one f end) _ (one g end)) h =
    λ i. not (truth-unchanged w q t f (or_none_first (has_free q f) (has_free q g) h) i) || truth-unchanged w q t g (or_none_second (has_free q f) (has_free q g) h) i
truth-unchanged w q t (Iff' _ (one f end) _ (one g end)) h =
    λ i. alike (truth-unchanged w q t f (or_none_first (has_free q f) (has_free q g) h) i) (truth-unchanged w q t g (or_none_second (has_free q f) (has_free q g) h) i)
truth-unchanged w q t (All' x _ (one f end)) h = λ i. every (w.size x.sort) (λ a. truth-unchanged (with_var w x.num a) q t f h i)
truth-unchanged w q t (Ex' x _ (one f end)) h = λ i. some (w.size x.sort) (λ a. truth-unchanged (with_var w x.num a) q t f h i)
truth-unchanged w q t (All2' p _ (one f end)) h =
    λ i. every_list (product (map w.size p.args)) (λ u. below_pred w q t p.num (entry (map w.size p.args) u) f
    (λ e. truth-unchanged (with_bound w p.num (entry (map w.size p.args) u)) q t f (shown (hides p.num q) (has_free q f) e h)) i)
truth-unchanged w q t (Ex2' p _ (one f end)) h =
    λ i. some_list (product (map w.size p.args)) (λ u. below_pred w q t p.num (entry (map w.size p.args) u) f
    (λ e. truth-unchanged (with_bound w p.num (entry (map w.size p.args) u)) q t f (shown (hides p.num q) (has_free q f) e h)) i)

-- two tables that are one if the predicate is free
pub truth-same_table : (w : World) (q : Pred) (s t : List ℕ → Bool) (f : Form) → (has_free q f ≡ true → s ≡ t) → truth (with_pred w q s) f ≡ truth (with_pred w q t) f
truth-same_table w q s t f h =
    bool_cases (λ b. has_free q f ≡ b → truth (with_pred w q s) f ≡ truth (with_pred w q t) f) (has_free q f)
    (λ _ e. ap (λ u. truth (with_pred w q u) f) (h e))
    (λ _ e. truth-unchanged w q s f e ∙ sym (truth-unchanged w q t f e))
    refl

-- ---- bound predicates

same_bound : (n : ℕ) (p : Pred) → same_pred (Bound n) p ≡ is_bound n p
same_bound n (Decl k) = refl
same_bound n (Bound k) = refl

pub has_free-bound : (n : ℕ) (f : Form) → has_free (Bound n) f ≡ free_pred n f
has_free-bound n True = refl
has_free-bound n False = refl
has_free-bound n (Equal s t) = refl
has_free-bound n (Atom p ts) = same_bound n p
has_free-bound n (Not' _ (one f end)) = has_free-bound n f
has_free-bound n (And' _ (one f end) _ (one g end)) = λ i. has_free-bound n f i || has_free-bound n g i
has_free-bound n (Or' _ (one f end) _ (one g end)) = λ i. has_free-bound n f i || has_free-bound n g i
has_free-bound n (Imp' _ (one f end) _ (one g end)) = λ i. has_free-bound n f i || has_free-bound n g i
has_free-bound n (Iff' _ (one f end) _ (one g end)) = λ i. has_free-bound n f i || has_free-bound n g i
has_free-bound n (All' x _ (one f end)) = has_free-bound n f
has_free-bound n (Ex' x _ (one f end)) = has_free-bound n f
has_free-bound n (All2' p _ (one f end)) = ap (λ c. cond (eqb n p.num) false c) (has_free-bound n f)
has_free-bound n (Ex2' p _ (one f end)) = ap (λ c. cond (eqb n p.num) false c) (has_free-bound n f)
