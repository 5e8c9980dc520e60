-- The argument sorts of one predicate in a sorting, and well-sorted formulas whose bound predicates were renamed.
use Rattle.std.proofs.Common.{◌≡◌, ℕ, true, false, cond, eqb, ◌&&◌, List, [], ◌∷◌, Option, Some, refl, sym, ◌∙◌, ap}
use Rattle.std.proofs.lemmas.Bool.{eqb-true}
use Rattle.soqe_term.specs.declared.term.Sym.TheVariants.{Fun, Skolem}
use Rattle.soqe_term.specs.declared.term.Term.{Term, Var as var, App}
use Rattle.soqe_term.specs.declared.term.Terms.{Terms, Nil, Cons', end_of-Term as end-t, more_of-Term as one-t, end_of-Terms as ends-t, more_of-Terms as ones-t}
use Rattle.soqe_number.specs.Updates.{changed}
use Rattle.soqe_term.specs.Sorting.{Sorting, over_var, over_bound, with_sorts, with_fun, own_sort, sorted_term, sorted_terms}
use Rattle.soqe_number.proofs.Choices.{by_cases, bool_cases, or_none_first, or_none_second}
use Rattle.soqe_term.proofs.Sortings.{sorted_term-agree, sorted_terms-agree}
use Rattle.soqe_term.proofs.Worlds.{changed-at, changed-off, changed-commutes, changed-again}
use Rattle.soqe_form.specs.declared.form.Pred.{Pred}
use Rattle.soqe_form.specs.declared.form.Pred.TheVariants.{Decl, Bound}
use Rattle.soqe_form.specs.declared.form.PVar.{PVar}
use Rattle.soqe_form.specs.declared.form.Form.{Form, True, False, Equal, Atom, Not', And', Or', Imp', Iff', All', Ex', All2, All2', Ex2, Ex2', end_of-Form as end, more_of-Form as one}
use Rattle.soqe_form.specs.Boxes.{boxes}
use Rattle.soqe_form.specs.FreePreds.{same_pred, hides, has_free, over_pred}
use Rattle.soqe_subst.specs.PredRenaming.{exchanged, renamed_pred, renumbered}
use Rattle.soqe_form.specs.MentionsPreds.{mentions_pred}
use Rattle.soqe_form.specs.Sorted.{sorted, pred_sorts}
use Rattle.soqe_form.proofs.FreePreds.{shown}
use Rattle.soqe_subst.proofs.PredRenamings.{free_pred-mentions}
use Rattle.soqe_form.proofs.Numbers.{eqb-swap}
use Rattle.soqe_form.proofs.Sortings.{sorted-lacks}

-- ---- the sorts of one predicate

pub pred_sorts-over_pred : (e : Sorting) (q : Pred) (sorts : List ℕ) → pred_sorts (over_pred e q sorts) q ≡ Some sorts
pred_sorts-over_pred e (Decl n) sorts = changed-at e.declared n (Some sorts)
pred_sorts-over_pred e (Bound n) sorts = changed-at e.bound n (Some sorts)

pub pred_sorts-other : (e : Sorting) (q p : Pred) (sorts : List ℕ) → same_pred q p ≡ false → pred_sorts (over_pred e q sorts) p ≡ pred_sorts e p
pred_sorts-other e (Decl m) (Decl n) sorts h = changed-off e.declared m n (Some sorts) (eqb-swap m n h)
pred_sorts-other e (Bound m) (Bound n) sorts h = changed-off e.bound m n (Some sorts) (eqb-swap m n h)
pred_sorts-other e (Decl m) (Bound n) sorts h = refl
pred_sorts-other e (Bound m) (Decl n) sorts h = refl

pub over_pred-commutes : (e : Sorting) (q : Pred) (sorts : List ℕ) (n : ℕ) (args : List ℕ) → hides n q ≡ false → over_bound (over_pred e q sorts) n args ≡ over_pred (over_bound e n args) q sorts
over_pred-commutes e (Decl m) sorts n args h = refl
over_pred-commutes e (Bound m) sorts n args h = λ i. record e { bound = changed-commutes e.bound m n (Some sorts) (Some args) h i }

pub over_pred-hidden : (e : Sorting) (q : Pred) (sorts : List ℕ) (n : ℕ) (args : List ℕ) → hides n q ≡ true → over_bound (over_pred e q sorts) n args ≡ over_bound e n args
over_pred-hidden e (Decl m) sorts n args h = let h : false ≡ true = h in cc
over_pred-hidden e (Bound m) sorts n args h =
    ap (λ k. over_bound (over_bound e k sorts) n args) (eqb-true m n h) ∙ (λ i. record e { bound = changed-again e.bound n (Some sorts) (Some args) i })

-- ---- terms and formulas

mutual
  -- the sorting of a term doesn't depend on predicates
  pub sorted_term-tables : (e : Sorting) (d b : ℕ → Option (List ℕ)) (t : Term) → sorted_term (record e { declared = d; bound = b }) t ≡ sorted_term e t
  sorted_term-tables e d b (var x) = refl
  sorted_term-tables e d b (App (Fun n) s ts) = λ i. with_fun (λ sorts. sorted_terms-tables e d b ts sorts i) s (e.fun n)
  sorted_term-tables e d b (App (Skolem n) s ts) = λ i. with_fun (λ sorts. sorted_terms-tables e d b ts sorts i) s (e.skolem n)

  pub sorted_terms-tables : (e : Sorting) (d b : ℕ → Option (List ℕ)) (ts : Terms) (sorts : List ℕ) → sorted_terms (record e { declared = d; bound = b }) ts sorts ≡ sorted_terms e ts sorts
  sorted_terms-tables e d b Nil [] = refl
  sorted_terms-tables e d b Nil (s ∷ sorts) = refl
  sorted_terms-tables e d b (Cons' _ (one-t t end-t) _ (ones-t ts ends-t)) [] = refl
  sorted_terms-tables e d b (Cons' _ (one-t t end-t) _ (ones-t ts ends-t)) (s ∷ sorts) = λ i. sorted_term-tables e d b t i && (eqb (own_sort t) s && sorted_terms-tables e d b ts sorts i)

pub sorted_term-over_pred : (e : Sorting) (q : Pred) (sorts : List ℕ) (t : Term) → sorted_term (over_pred e q sorts) t ≡ sorted_term e t
sorted_term-over_pred e q sorts t = sorted_term-tables e (over_pred e q sorts).declared (over_pred e q sorts).bound t

pub sorted_terms-over_pred : (e : Sorting) (q : Pred) (sorts : List ℕ) (ts : Terms) (args : List ℕ) → sorted_terms (over_pred e q sorts) ts args ≡ sorted_terms e ts args
sorted_terms-over_pred e q sorts ts args = sorted_terms-tables e (over_pred e q sorts).declared (over_pred e q sorts).bound ts args

below_pred : (e : Sorting) (q : Pred) (sorts : List ℕ) (n : ℕ) (args : List ℕ) (f : Form)
    → (hides n q ≡ false → sorted (over_pred (over_bound e n args) q sorts) f ≡ sorted (over_bound e n args) f) → sorted (over_bound (over_pred e q sorts) n args) f ≡ sorted (over_bound e n args) f
below_pred e q sorts n args f h =
    bool_cases (λ b. hides n q ≡ b → sorted (over_bound (over_pred e q sorts) n args) f ≡ sorted (over_bound e n args) f) (hides n q)
    (λ _ o. ap (λ d. sorted d f) (over_pred-hidden e q sorts n args o))
    (λ _ o. ap (λ d. sorted d f) (over_pred-commutes e q sorts n args o) ∙ h o)
    refl

-- the sorts of a predicate that is not free don't matter
pub sorted-unchanged : (e : Sorting) (q : Pred) (sorts : List ℕ) (f : Form) → has_free q f ≡ false → sorted (over_pred e q sorts) f ≡ sorted e f
sorted-unchanged e q sorts True h = refl
sorted-unchanged e q sorts False h = refl
sorted-unchanged e q sorts (Equal s t) h = λ i. sorted_term-over_pred e q sorts s i && (sorted_term-over_pred e q sorts t i && eqb (own_sort s) (own_sort t))
sorted-unchanged e q sorts (Atom p ts) h = λ i. with_sorts (λ args. sorted_terms-over_pred e q sorts ts args i) (pred_sorts-other e q p sorts h i)
sorted-unchanged e q sorts (Not' _ (one f end)) h = sorted-unchanged e q sorts f h
sorted-unchanged e q sorts (And' _ (one f end) _ (one g end)) h = λ i. sorted-unchanged e q sorts f (or_none_first (has_free q f) (has_free q g) h) i && sorted-unchanged e q sorts g (or_none_second (has_free q f) (has_free q g) h) i
sorted-unchanged e q sorts (Or' _ (one f end) _ (one g end)) h = λ i. sorted-unchanged e q sorts f (or_none_first (has_free q f) (has_free q g) h) i && sorted-unchanged e q sorts g (or_none_second (has_free q f) (has_free q g) h) i
sorted-unchanged e q sorts (Imp' _ (one f end) _ (one g end)) h = λ i. sorted-unchanged e q sorts f (or_none_first (has_free q f) (has_free q g) h) i && sorted-unchanged e q sorts g (or_none_second (has_free q f) (has_free q g) h) i
sorted-unchanged e q sorts (Iff' _ (one f end) _ (one g end)) h = λ i. sorted-unchanged e q sorts f (or_none_first (has_free q f) (has_free q g) h) i && sorted-unchanged e q sorts g (or_none_second (has_free q f) (has_free q g) h) i
sorted-unchanged e q sorts (All' x _ (one f end)) h = sorted-unchanged (over_var e x.num x.sort) q sorts f h
sorted-unchanged e q sorts (Ex' x _ (one f end)) h = sorted-unchanged (over_var e x.num x.sort) q sorts f h
sorted-unchanged e q sorts (All2' p _ (one f end)) h = below_pred e q sorts p.num p.args f (λ o. sorted-unchanged (over_bound e p.num p.args) q sorts f (shown (hides p.num q) (has_free q f) o h))
sorted-unchanged e q sorts (Ex2' p _ (one f end)) h = below_pred e q sorts p.num p.args f (λ o. sorted-unchanged (over_bound e p.num p.args) q sorts f (shown (hides p.num q) (has_free q f) o h))

-- ---- a bound predicate renamed

-- the sorting with the sorts of n for the bound predicate m
abbrev pub exchanged_in : Sorting → ℕ → ℕ → Sorting
exchanged_in e m n = record e { bound = changed e.bound m (e.bound n) }

pred_sorts-exchanged : (e : Sorting) (m n : ℕ) (p : Pred) → pred_sorts e (exchanged m n p) ≡ pred_sorts (exchanged_in e m n) p
pred_sorts-exchanged e m n (Decl k) = refl
pred_sorts-exchanged e m n (Bound k) = bool_cases (λ b. e.bound (cond b n k) ≡ cond b (e.bound n) (e.bound k)) (eqb k m) (λ _. refl) (λ _. refl)

terms_same : (e : Sorting) (m n : ℕ) (ts : Terms) (sorts : List ℕ) → sorted_terms e ts sorts ≡ sorted_terms (exchanged_in e m n) ts sorts
terms_same e m n ts sorts = sorted_terms-agree e e.variable e.variable e.bound (changed e.bound m (e.bound n)) ts sorts (λ n o. refl)

term_same : (e : Sorting) (m n : ℕ) (t : Term) → sorted_term e t ≡ sorted_term (exchanged_in e m n) t
term_same e m n t = sorted_term-agree e e.variable e.variable e.bound (changed e.bound m (e.bound n)) t (λ n o. refl)

below_binder : (e : Sorting) (m n p : ℕ) (args : List ℕ) (f g : Form) → eqb n p ≡ false
    → sorted (over_bound e p args) g ≡ sorted (exchanged_in (over_bound e p args) m n) f
    → sorted (over_bound e p args) (cond (eqb p m) f g) ≡ sorted (over_bound (exchanged_in e m n) p args) f
below_binder e m n p args f g o h =
    by_cases (λ r. sorted (over_bound e p args) r ≡ sorted (over_bound (exchanged_in e m n) p args) f) (eqb p m) f g
    (λ q. sym (ap (λ k. sorted (over_bound (exchanged_in e k n) p args) f) (sym (eqb-true p m q)) ∙ (λ i. sorted (record e { bound = changed-again e.bound p (e.bound n) (Some args) i }) f)))
    (λ q. h ∙ (λ i. sorted (record e { bound = changed (changed e.bound p (Some args)) m (changed-off e.bound p n (Some args) o i) }) f)
    ∙ (λ i. sorted (record e { bound = changed-commutes e.bound p m (Some args) (e.bound n) q i }) f))

-- it is well sorted where the formula is with the sorts of the new number
pub sorted-renamed_pred : (e : Sorting) (m n : ℕ) (f : Form) → mentions_pred n f ≡ false → sorted e (renamed_pred m n f) ≡ sorted (exchanged_in e m n) f
unfolding boxes
sorted-renamed_pred e m n True h = refl
sorted-renamed_pred e m n False h = refl
sorted-renamed_pred e m n (Equal s t) h = λ i. term_same e m n s i && (term_same e m n t i && eqb (own_sort s) (own_sort t))
sorted-renamed_pred e m n (Atom p ts) h = λ i. with_sorts (λ sorts. terms_same e m n ts sorts i) (pred_sorts-exchanged e m n p i)
sorted-renamed_pred e m n (Not' _ (one f end)) h = sorted-renamed_pred e m n f h
sorted-renamed_pred e m n (And' _ (one f end) _ (one g end)) h =
    λ i. sorted-renamed_pred e m n f (or_none_first (mentions_pred n f) (mentions_pred n g) h) i && sorted-renamed_pred e m n g (or_none_second (mentions_pred n f) (mentions_pred n g) h) i
sorted-renamed_pred e m n (Or' _ (one f end) _ (one g end)) h =
    λ i. sorted-renamed_pred e m n f (or_none_first (mentions_pred n f) (mentions_pred n g) h) i && sorted-renamed_pred e m n g (or_none_second (mentions_pred n f) (mentions_pred n g) h) i
sorted-renamed_pred e m n (Imp' _ (one f end) _ (one g end)) h =
    λ i. sorted-renamed_pred e m n f (or_none_first (mentions_pred n f) (mentions_pred n g) h) i && sorted-renamed_pred e m n g (or_none_second (mentions_pred n f) (mentions_pred n g) h) i
sorted-renamed_pred e m n (Iff' _ (one f end) _ (one g end)) h =
    λ i. sorted-renamed_pred e m n f (or_none_first (mentions_pred n f) (mentions_pred n g) h) i && sorted-renamed_pred e m n g (or_none_second (mentions_pred n f) (mentions_pred n g) h) i
sorted-renamed_pred e m n (All' x _ (one f end)) h = sorted-renamed_pred (over_var e x.num x.sort) m n f h
sorted-renamed_pred e m n (Ex' x _ (one f end)) h = sorted-renamed_pred (over_var e x.num x.sort) m n f h
sorted-renamed_pred e m n (All2' p _ (one f end)) h =
    below_binder e m n p.num p.args f (renamed_pred m n f) (or_none_first (eqb n p.num) (mentions_pred n f) h) (sorted-renamed_pred (over_bound e p.num p.args) m n f (or_none_second (eqb n p.num) (mentions_pred n f) h))
sorted-renamed_pred e m n (Ex2' p _ (one f end)) h =
    below_binder e m n p.num p.args f (renamed_pred m n f) (or_none_first (eqb n p.num) (mentions_pred n f) h) (sorted-renamed_pred (over_bound e p.num p.args) m n f (or_none_second (eqb n p.num) (mentions_pred n f) h))

-- below a binder under another number
pub sorted-other_number : (e : Sorting) (m n : ℕ) (args : List ℕ) (f : Form) → mentions_pred n f ≡ false → sorted (over_bound e n args) (renamed_pred m n f) ≡ sorted (over_bound e m args) f
sorted-other_number e m n args f h =
    sorted-renamed_pred (over_bound e n args) m n f h
    ∙ (λ i. sorted (record e { bound = changed (changed e.bound n (Some args)) m (changed-at e.bound n (Some args) i) }) f)
    ∙ bool_cases (λ b. eqb n m ≡ b → sorted (over_bound (over_bound e n args) m args) f ≡ sorted (over_bound e m args) f) (eqb n m)
    (λ _ q. ap (λ k. sorted (over_bound (over_bound e k args) m args) f) (eqb-true n m q) ∙ (λ i. sorted (record e { bound = changed-again e.bound m (Some args) (Some args) i }) f))
    (λ _ q. (λ i. sorted (record e { bound = changed-commutes e.bound n m (Some args) (Some args) q i }) f) ∙ sorted-lacks (over_bound e m args) n args f (free_pred-mentions n f h))
    refl

pub sorted-renumbered_all : (e : Sorting) (p : PVar) (n : ℕ) (f : Form) → mentions_pred n f ≡ false → sorted e (All2 (renumbered p n) (renamed_pred p.num n f)) ≡ sorted e (All2 p f)
unfolding boxes
sorted-renumbered_all e p n f h = sorted-other_number e p.num n p.args f h

pub sorted-renumbered_ex : (e : Sorting) (p : PVar) (n : ℕ) (f : Form) → mentions_pred n f ≡ false → sorted e (Ex2 (renumbered p n) (renamed_pred p.num n f)) ≡ sorted e (Ex2 p f)
unfolding boxes
sorted-renumbered_ex e p n f h = sorted-other_number e p.num n p.args f h
