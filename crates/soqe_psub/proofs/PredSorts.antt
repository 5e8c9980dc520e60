-- A well-sorted formula stays so when a predicate is replaced by a body that is well sorted with the parameters known.
--
-- In a well-sorted formula an atom of the predicate has arguments of the parameters' sorts, so the law of substitution gives a
-- well-sorted body. Below a binder the body is as well sorted as before, or no atom stands there.
use Rattle.std.proofs.Common.{◌≡◌, ℕ, zero, suc, ◌<◌, ◌≤◌, Bool, true, false, cond, eqb, not, ◌||◌, ◌&&◌, List, [], ◌∷◌, length, Option, Some, refl, sym, ◌∙◌, ap, arith}
use Rattle.std.specs.List.{All}
use Rattle.std.proofs.lemmas.Bool.{eqb-true, eq-eqb, ne_eqb, or_from, or_left, or_right, both_ways}
use Rattle.std.proofs.lemmas.List.Elements.{All-nil, All-cons, All-head, All-tail}
use Rattle.std.proofs.lemmas.List.{length-map}
use Rattle.soqe_term.specs.declared.bindings.Bound.{Bound as Pair}
use Rattle.soqe_term.specs.declared.term.Var.{Var}
use Rattle.soqe_term.specs.declared.term.Terms.{Terms, Nil, Cons', end_of-Term as end-t, more_of-Term as one-t, end_of-Terms as ends-t, more_of-Terms as ones-t}
use Rattle.soqe_number.specs.Updates.{changed}
use Rattle.soqe_term.specs.Bindings.{over_binding, HasOwnSorts, AreSorted}
use Rattle.soqe_term.specs.Sorting.{Sorting, over_var, over_bound, with_sorts, own_sort, sorted_term, sorted_terms}
use Rattle.soqe_number.proofs.Choices.{by_cases, bool_cases, and_first, and_second, and_fails}
use Rattle.soqe_term.proofs.Worlds.{changed-at, changed-off, changed-again, changed-commutes, agree_changed}
use Rattle.soqe_form.specs.declared.form.PVar.{PVar}
use Rattle.soqe_form.specs.declared.form.Pred.{Pred}
use Rattle.soqe_form.specs.declared.form.Form.{Form, True, False, Equal, Atom, Not', And', Or', Imp', Iff', All', Ex', All2, All2', Ex2, Ex2', end_of-Form as end, more_of-Form as one}
use Rattle.soqe_form.specs.Boxes.{boxes}
use Rattle.soqe_form.specs.Free.{free, free_pred}
use Rattle.soqe_form.specs.FreeVars.{is_among}
use Rattle.soqe_form.specs.FreePreds.{count, same_pred, hides, has_free, over_pred}
use Rattle.soqe_form.specs.Mentions.{depth}
use Rattle.soqe_subst.specs.PredRenaming.{renamed_pred, renumbered}
use Rattle.soqe_form.specs.Sorted.{sorted, pred_sorts}
use Rattle.soqe_subst.specs.Substitution.{visible, without, renamed, sub}
use Rattle.soqe_term.specs.Renumber.{numbered}
use Rattle.soqe_subst.proofs.FreeAtoms.{has_free-renamed, length-sorted}
use Rattle.soqe_form.proofs.FreePreds.{same_pred-true}
use Rattle.soqe_subst.proofs.PredRenamings.{depth-renamed_pred, free_pred-mentions, hides-none}
use Rattle.soqe_subst.proofs.PredSorts.{pred_sorts-over_pred, pred_sorts-other, over_pred-commutes, over_pred-hidden, sorted_term-over_pred, sorted_terms-over_pred, sorted-other_number}
use Rattle.soqe_subst.proofs.Renamings.{depth-renamed, depth-positive, free-mentions}
use Rattle.soqe_form.proofs.Sortings.{sorted-agree}
use Rattle.soqe_subst.proofs.SubstitutedSorts.{sorted-renamed, sorted-sub_binding}
use Rattle.soqe_psub.specs.PredSubst.{arguments, catches_var, fresh_var, new_binder, new_body, catches_pred, fresh_pred, new_pred_binder, new_pred_body, atom_sub, pred_sub}
use Rattle.soqe_psub.specs.PredSubstLaws.{with_params, over_params, param_sorts}
use Rattle.soqe_psub.proofs.NewNumbers.{IsNew, IsNewPred, fresh_var-is, fresh_pred-is}
use Rattle.soqe_psub.proofs.PredTruth.{first_fails}

-- well-sorted arguments are as many as their sorts
-- ---- the binding of the arguments

All-visible : (P : Pair → Type 0) (p : ℕ → Bool) (s : List Pair) → All P s → All P (visible p s)
All-visible P p [] h = h
All-visible P p (b ∷ more) h =
    by_cases (All P) (p b.var.num) (visible p more) (b ∷ visible p more)
    (λ _. All-visible P p more (All-tail P b more h))
    (λ _. All-cons P b (visible p more) (All-head P b more h) (All-visible P p more (All-tail P b more h)))

abbrev HasSort : Pair → Type 0
HasSort b = own_sort b.term ≡ b.var.sort

arguments-own : (e : Sorting) (xs : List Var) (ts : Terms) → sorted_terms e ts (param_sorts xs) ≡ true → HasOwnSorts (arguments xs ts)
arguments-own e [] ts h = All-nil HasSort
arguments-own e (x ∷ xs) Nil h = All-nil HasSort
arguments-own e (x ∷ xs) (Cons' _ (one-t t end-t) _ (ones-t ts ends-t)) h =
    let rest : (eqb (own_sort t) x.sort && sorted_terms e ts (param_sorts xs)) ≡ true = and_second (sorted_term e t) (eqb (own_sort t) x.sort && sorted_terms e ts (param_sorts xs)) h in
    All-cons HasSort (record { var = x; term = t }) (without x.num (arguments xs ts)) (eqb-true (own_sort t) x.sort (and_first (eqb (own_sort t) x.sort) (sorted_terms e ts (param_sorts xs)) rest))
    (All-visible HasSort (λ n. eqb n x.num) (arguments xs ts) (arguments-own e xs ts (and_second (eqb (own_sort t) x.sort) (sorted_terms e ts (param_sorts xs)) rest)))

arguments-sorted : (e : Sorting) (xs : List Var) (ts : Terms) → sorted_terms e ts (param_sorts xs) ≡ true → AreSorted e (arguments xs ts)
arguments-sorted e [] ts h = All-nil (λ b. sorted_term e b.term ≡ true)
arguments-sorted e (x ∷ xs) Nil h = All-nil (λ b. sorted_term e b.term ≡ true)
arguments-sorted e (x ∷ xs) (Cons' _ (one-t t end-t) _ (ones-t ts ends-t)) h =
    let rest : (eqb (own_sort t) x.sort && sorted_terms e ts (param_sorts xs)) ≡ true = and_second (sorted_term e t) (eqb (own_sort t) x.sort && sorted_terms e ts (param_sorts xs)) h in
    All-cons (λ b. sorted_term e b.term ≡ true) (record { var = x; term = t }) (without x.num (arguments xs ts)) (and_first (sorted_term e t) (eqb (own_sort t) x.sort && sorted_terms e ts (param_sorts xs)) h)
    (All-visible (λ b. sorted_term e b.term ≡ true) (λ n. eqb n x.num) (arguments xs ts) (arguments-sorted e xs ts (and_second (eqb (own_sort t) x.sort) (sorted_terms e ts (param_sorts xs)) rest)))

-- the bindings of x don't matter where x has a sort
over-without : (e : Sorting) (x r : ℕ) (s : List Pair) → over_var (over_binding e (without x s)) x r ≡ over_var (over_binding e s) x r
over-without e x r [] = refl
over-without e x r (b ∷ more) =
    by_cases (λ s. over_var (over_binding e s) x r ≡ over_var (over_var (over_binding e more) b.var.num b.var.sort) x r) (eqb b.var.num x) (without x more) (b ∷ without x more)
    (λ q. over-without e x r more
    ∙ sym (λ i. record (over_binding e more) { variable = changed-again (over_binding e more).variable x (Some b.var.sort) (Some r) i })
    ∙ ap (λ n. over_var (over_var (over_binding e more) n b.var.sort) x r) (sym (eqb-true b.var.num x q)))
    (λ q. (λ i. record (over_binding e (without x more)) { variable = changed-commutes (over_binding e (without x more)).variable b.var.num x (Some b.var.sort) (Some r) q i })
    ∙ ap (λ d. over_var d b.var.num b.var.sort) (over-without e x r more)
    ∙ sym (λ i. record (over_binding e more) { variable = changed-commutes (over_binding e more).variable b.var.num x (Some b.var.sort) (Some r) q i }))

over-arguments : (e : Sorting) (xs : List Var) (ts : Terms) → count ts ≡ length xs → over_binding e (arguments xs ts) ≡ over_params e xs
over-arguments e [] ts h = refl
over-arguments e (x ∷ xs) Nil h = absurd (omega (arith, h))
over-arguments e (x ∷ xs) (Cons' _ (one-t t end-t) _ (ones-t ts ends-t)) h =
    over-without e x.num x.sort (arguments xs ts) ∙ ap (λ d. over_var d x.num x.sort) (over-arguments e xs ts (omega (arith, h)))

-- ---- the body below a binder

params-agree : (xs : List Var) (v u : ℕ → Option ℕ) (n : ℕ) → (is_among xs n ≡ false → v n ≡ u n) → with_params v xs n ≡ with_params u xs n
params-agree [] v u n h = h refl
params-agree (x ∷ xs) v u n h =
    bool_cases (λ q. eqb n x.num ≡ q → cond q (Some x.sort) (with_params v xs n) ≡ cond q (Some x.sort) (with_params u xs n)) (eqb n x.num)
    (λ _ q. refl) (λ _ q. params-agree xs v u n (λ o. h (or_from (eqb n x.num) (is_among xs n) q o))) refl

module _ (q : Pred) (xs : List Var) (b : Form) where
  -- the body's sorting doesn't depend on a variable that is a parameter, or not free in it
  body-var : (e : Sorting) (y s : ℕ) → (free y b && not (is_among xs y)) ≡ false → sorted (over_params (over_var e y s) xs) b ≡ sorted (over_params e xs) b
  body-var e y s h = sorted-agree e (with_params (changed e.variable y (Some s)) xs) (with_params e.variable xs) e.bound e.bound b point (λ n o. refl)
    where
      off : (f p : Bool) → (f && not p) ≡ false → p ≡ false → f ≡ false
      off f true h e = let e : true ≡ false = e in cc
      off true false h e = h
      off false false h e = refl

      point : (n : ℕ) → free n b ≡ true → with_params (changed e.variable y (Some s)) xs n ≡ with_params e.variable xs n
      point n o = params-agree xs (changed e.variable y (Some s)) e.variable n
          (λ p. changed-off e.variable y n (Some s) (ne_eqb n y (λ r. both_ways (free n b) (ap (λ k. free k b) r ∙ off (free y b) (is_among xs y) h (ap (is_among xs) (sym r) ∙ p)) o)))

  body-bound : (e : Sorting) (p : ℕ) (args : List ℕ) → free_pred p b ≡ false → sorted (over_params (over_bound e p args) xs) b ≡ sorted (over_params e xs) b
  body-bound e p args h =
      sorted-agree e (with_params e.variable xs) (with_params e.variable xs) (changed e.bound p (Some args)) e.bound b (λ n o. refl) (agree_changed (λ n. free_pred n b) e.bound p (Some args) h)

  -- the sorting in which the predicate has the sorts of the parameters
  abbrev pub assumed : Sorting → Sorting
  assumed e = over_pred e q (param_sorts xs)

  abbrev Keeps : ℕ → Type 0
  Keeps k = (e : Sorting) (f : Form) → depth f ≤ k → (has_free q f ≡ true → sorted (over_params e xs) b ≡ true) → sorted (assumed e) f ≡ true → sorted e (pred_sub k q xs b f) ≡ true

  -- ---- below a binder of a variable

  renamed_below : (k : ℕ) (e : Sorting) (y : Var) (f : Form) (z : ℕ) → Keeps k → depth f ≤ k → (has_free q f ≡ true → sorted (over_params e xs) b ≡ true)
      → sorted (over_var (assumed e) y.num y.sort) f ≡ true → IsNew b f z → sorted (over_var e z y.sort) (pred_sub k q xs b (renamed y.num (numbered y z) f)) ≡ true
  renamed_below k e y f z keeps d body o new =
      let d2 : depth (renamed y.num (numbered y z) f) ≤ k = omega (arith, depth-renamed y.num (numbered y z) f) in
      let both : sorted (over_var (over_var (assumed e) z y.sort) y.num y.sort) f ≡ true =
      sorted-agree (assumed e) (changed (changed e.variable z (Some y.sort)) y.num (Some y.sort)) (changed e.variable y.num (Some y.sort)) (assumed e).bound (assumed e).bound f
      (λ n r. ap (λ d. cond (eqb n y.num) (Some y.sort) d) (agree_changed (λ n. free n f) e.variable z (Some y.sort) (free-mentions z f new.not_f) n r)) (λ n r. refl)
      ∙ o in
      keeps (over_var e z y.sort) (renamed y.num (numbered y z) f) d2
      (λ r. body-var e z y.sort (ap (λ c. c && not (is_among xs z)) (free-mentions z b new.not_b)) ∙ body (sym (has_free-renamed q y.num (numbered y z) f) ∙ r))
      (sorted-renamed (over_var (assumed e) z y.sort) y.num (numbered y z) f new.not_f (changed-at e.variable z (Some y.sort)) both)

  below_var : (k : ℕ) (e : Sorting) (y : Var) (f : Form) → Keeps k → depth f ≤ k → (has_free q f ≡ true → sorted (over_params e xs) b ≡ true)
      → sorted (over_var (assumed e) y.num y.sort) f ≡ true → sorted (over_var e (new_binder q xs b y f).num (new_binder q xs b y f).sort) (pred_sub k q xs b (new_body q xs b y f)) ≡ true
  below_var k e y f keeps d body o =
      let z : ℕ = fresh_var xs b y f in
      bool_cases (λ c. sorted (over_var e (cond c (numbered y z) y).num (cond c (numbered y z) y).sort) (pred_sub k q xs b (cond c (renamed y.num (numbered y z) f) f)) ≡ true) (catches_var q xs b y f)
      (λ c. renamed_below k e y f z keeps d body o (fresh_var-is xs b y f))
      (λ c. keeps (over_var e y.num y.sort) f d (λ r. body-var e y.num y.sort (first_fails (free y.num b && not (is_among xs y.num)) (has_free q f) r c) ∙ body r) o)

  -- ---- below a binder of a predicate

  renamed_below_pred : (k : ℕ) (e : Sorting) (p : PVar) (f : Form) (n : ℕ) → Keeps k → depth f ≤ k → (has_free q f ≡ true → sorted (over_params e xs) b ≡ true)
      → sorted (over_bound (assumed e) p.num p.args) f ≡ true → has_free q f ≡ true → IsNewPred b f n → sorted (over_bound e n p.args) (pred_sub k q xs b (renamed_pred p.num n f)) ≡ true
  renamed_below_pred k e p f n keeps d body o r new =
      let d2 : depth (renamed_pred p.num n f) ≤ k = omega (arith, depth-renamed_pred p.num n f) in
      keeps (over_bound e n p.args) (renamed_pred p.num n f) d2
      (λ _. body-bound e n p.args (free_pred-mentions n b new.not_b) ∙ body r)
      (ap (λ d. sorted d (renamed_pred p.num n f)) (sym (over_pred-commutes e q (param_sorts xs) n p.args (hides-none q n f new.not_f r)))
      ∙ sorted-other_number (assumed e) p.num n p.args f new.not_f ∙ o)

  below_pred : (k : ℕ) (e : Sorting) (p : PVar) (f : Form) → Keeps k → depth f ≤ k → (has_free q f ≡ true → sorted (over_params e xs) b ≡ true) → hides p.num q ≡ false
      → sorted (over_bound (assumed e) p.num p.args) f ≡ true → sorted (over_bound e (new_pred_binder q b p f).num (new_pred_binder q b p f).args) (pred_sub k q xs b (new_pred_body q b p f)) ≡ true
  below_pred k e p f keeps d body beside o =
      let n : ℕ = fresh_pred b p f in
      bool_cases (λ c. sorted (over_bound e (cond c (renumbered p n) p).num (cond c (renumbered p n) p).args) (pred_sub k q xs b (cond c (renamed_pred p.num n f) f)) ≡ true) (catches_pred q b p f)
      (λ c. renamed_below_pred k e p f n keeps d body o (and_second (free_pred p.num b) (has_free q f) c) (fresh_pred-is b p f))
      (λ c. keeps (over_bound e p.num p.args) f d (λ r. body-bound e p.num p.args (first_fails (free_pred p.num b) (has_free q f) r c) ∙ body r)
      (ap (λ d. sorted d f) (sym (over_pred-commutes e q (param_sorts xs) p.num p.args beside)) ∙ o))

  shown_body : (h a : Bool) (T : Type 0) → h ≡ false → (cond h false a ≡ true → T) → a ≡ true → T
  shown_body true a T e k o = let e : true ≡ false = e in cc
  shown_body false a T e k o = k o

  sorted_all2 : (k : ℕ) (e : Sorting) (p : PVar) (f : Form) → Keeps k → depth f ≤ k → (cond (hides p.num q) false (has_free q f) ≡ true → sorted (over_params e xs) b ≡ true)
      → sorted (over_bound (assumed e) p.num p.args) f ≡ true
      → sorted e (cond (hides p.num q) (All2 p f) (All2 (new_pred_binder q b p f) (pred_sub k q xs b (new_pred_body q b p f)))) ≡ true
  unfolding boxes
  sorted_all2 k e p f keeps d body o =
      by_cases (λ r. sorted e r ≡ true) (hides p.num q) (All2 p f) (All2 (new_pred_binder q b p f) (pred_sub k q xs b (new_pred_body q b p f)))
      (λ h. ap (λ d. sorted d f) (sym (over_pred-hidden e q (param_sorts xs) p.num p.args h)) ∙ o)
      (λ h. below_pred k e p f keeps d (shown_body (hides p.num q) (has_free q f) (sorted (over_params e xs) b ≡ true) h body) h o)

  sorted_ex2 : (k : ℕ) (e : Sorting) (p : PVar) (f : Form) → Keeps k → depth f ≤ k → (cond (hides p.num q) false (has_free q f) ≡ true → sorted (over_params e xs) b ≡ true)
      → sorted (over_bound (assumed e) p.num p.args) f ≡ true
      → sorted e (cond (hides p.num q) (Ex2 p f) (Ex2 (new_pred_binder q b p f) (pred_sub k q xs b (new_pred_body q b p f)))) ≡ true
  unfolding boxes
  sorted_ex2 k e p f keeps d body o =
      by_cases (λ r. sorted e r ≡ true) (hides p.num q) (Ex2 p f) (Ex2 (new_pred_binder q b p f) (pred_sub k q xs b (new_pred_body q b p f)))
      (λ h. ap (λ d. sorted d f) (sym (over_pred-hidden e q (param_sorts xs) p.num p.args h)) ∙ o)
      (λ h. below_pred k e p f keeps d (shown_body (hides p.num q) (has_free q f) (sorted (over_params e xs) b ≡ true) h body) h o)

  -- ---- atoms

  -- the arguments of an atom of the predicate
  args_sorted : (e : Sorting) (p : Pred) (ts : Terms) → same_pred q p ≡ true → sorted (assumed e) (Atom p ts) ≡ true → sorted_terms e ts (param_sorts xs) ≡ true
  args_sorted e p ts s o =
      sym (sorted_terms-over_pred e q (param_sorts xs) ts (param_sorts xs))
      ∙ sym (ap (with_sorts (λ sorts. sorted_terms (assumed e) ts sorts)) (ap (pred_sorts (assumed e)) (sym (same_pred-true q p s)) ∙ pred_sorts-over_pred e q (param_sorts xs)))
      ∙ o

  args_counted : (e : Sorting) (ts : Terms) → sorted_terms e ts (param_sorts xs) ≡ true → count ts ≡ length xs
  args_counted e ts h = length-sorted e ts (param_sorts xs) h ∙ length-map xs (λ (x : Var). x.sort)

  replaced_atom : (e : Sorting) (ts : Terms) → sorted_terms e ts (param_sorts xs) ≡ true → sorted (over_params e xs) b ≡ true → sorted e (sub (depth b) (arguments xs ts) b) ≡ true
  replaced_atom e ts args body =
      sorted-sub_binding (depth b) e (arguments xs ts) b (omega arith) (arguments-own e xs ts args) (arguments-sorted e xs ts args)
      (ap (λ d. sorted d b) (over-arguments e xs ts (args_counted e ts args)) ∙ body)

  kept_atom : (e : Sorting) (p : Pred) (ts : Terms) → sorted (assumed e) (Atom p ts) ≡ true → same_pred q p ≡ false → sorted e (Atom p ts) ≡ true
  kept_atom e p ts o s =
      (λ i. with_sorts (λ sorts. sym (sorted_terms-over_pred e q (param_sorts xs) ts sorts) i) (sym (pred_sorts-other e q p (param_sorts xs) s) i)) ∙ o

  sorted_atom : (e : Sorting) (p : Pred) (ts : Terms) → (same_pred q p ≡ true → sorted (over_params e xs) b ≡ true) → sorted (assumed e) (Atom p ts) ≡ true → sorted e (atom_sub q xs b p ts) ≡ true
  sorted_atom e p ts body o =
      by_cases (λ r. sorted e r ≡ true) (same_pred q p && eqb (count ts) (length xs)) (sub (depth b) (arguments xs ts) b) (Atom p ts)
      (λ h. let s : same_pred q p ≡ true = and_first (same_pred q p) (eqb (count ts) (length xs)) h in
      replaced_atom e ts (args_sorted e p ts s o) (body s))
      (λ h. kept_atom e p ts o (bool_cases (λ c. same_pred q p ≡ c → c ≡ false) (same_pred q p)
      (λ _ s. absurd (both_ways (eqb (count ts) (length xs)) (and_fails (same_pred q p) (eqb (count ts) (length xs)) s h) (eq-eqb (count ts) (length xs) (args_counted e ts (args_sorted e p ts s o)))))
      (λ _ s. refl) refl))

  two_parts : (k : ℕ) (e : Sorting) (f g : Form) → Keeps k → depth f ≤ k → depth g ≤ k → ((has_free q f || has_free q g) ≡ true → sorted (over_params e xs) b ≡ true)
      → (sorted (assumed e) f && sorted (assumed e) g) ≡ true → (sorted e (pred_sub k q xs b f) && sorted e (pred_sub k q xs b g)) ≡ true
  two_parts k e f g keeps df dg body o =
      λ i. keeps e f df (λ r. body (or_left (has_free q f) (has_free q g) r)) (and_first (sorted (assumed e) f) (sorted (assumed e) g) o) i
      && keeps e g dg (λ r. body (or_right (has_free q f) (has_free q g) r)) (and_second (sorted (assumed e) f) (sorted (assumed e) g) o) i

  -- a result is well sorted where the formula is with the parameters' sorts, and the body with the parameters if it is used
  pub sorted-pred_sub : (k : ℕ) → Keeps k
  unfolding boxes
  sorted-pred_sub zero e f d body o = let p : 0 < depth f = depth-positive f in absurd (omega arith)
  sorted-pred_sub (suc k) e True d body o = refl
  sorted-pred_sub (suc k) e False d body o = refl
  sorted-pred_sub (suc k) e (Equal s t) d body o =
      (λ i. sym (sorted_term-over_pred e q (param_sorts xs) s) i && (sym (sorted_term-over_pred e q (param_sorts xs) t) i && eqb (own_sort s) (own_sort t))) ∙ o
  sorted-pred_sub (suc k) e (Atom p ts) d body o = sorted_atom e p ts body o
  sorted-pred_sub (suc k) e (Not' _ (one f end)) d body o = sorted-pred_sub k e f (omega arith) body o
  sorted-pred_sub (suc k) e (And' _ (one f end) _ (one g end)) d body o = two_parts k e f g (sorted-pred_sub k) (omega arith) (omega arith) body o
  sorted-pred_sub (suc k) e (Or' _ (one f end) _ (one g end)) d body o = two_parts k e f g (sorted-pred_sub k) (omega arith) (omega arith) body o
  sorted-pred_sub (suc k) e (Imp' _ (one f end) _ (one g end)) d body o = two_parts k e f g (sorted-pred_sub k) (omega arith) (omega arith) body o
  sorted-pred_sub (suc k) e (Iff' _ (one f end) _ (one g end)) d body o = two_parts k e f g (sorted-pred_sub k) (omega arith) (omega arith) body o
  sorted-pred_sub (suc k) e (All' y _ (one f end)) d body o = below_var k e y f (sorted-pred_sub k) (omega arith) body o
  sorted-pred_sub (suc k) e (Ex' y _ (one f end)) d body o = below_var k e y f (sorted-pred_sub k) (omega arith) body o
  sorted-pred_sub (suc k) e (All2' p _ (one f end)) d body o = sorted_all2 k e p f (sorted-pred_sub k) (omega arith) body o
  sorted-pred_sub (suc k) e (Ex2' p _ (one f end)) d body o = sorted_ex2 k e p f (sorted-pred_sub k) (omega arith) body o
