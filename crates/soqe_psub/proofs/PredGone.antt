-- What is left of a predicate that was replaced by a body in which it is not free, and of the quantifiers of predicates.
use Rattle.std.proofs.Common.{◌≡◌, ℕ, zero, suc, ◌<◌, ◌≤◌, Bool, true, false, cond, eqb, not, ◌||◌, ◌&&◌, List, length, refl, sym, ◌∙◌, ap, arith}
use Rattle.std.proofs.lemmas.Bool.{or_from, both_ways}
use Rattle.std.proofs.lemmas.List.{length-map}
use Rattle.soqe_term.specs.declared.term.Var.{Var}
use Rattle.soqe_term.specs.declared.term.Terms.{Terms}
use Rattle.soqe_term.specs.Sorting.{Sorting}
use Rattle.soqe_number.proofs.Choices.{by_cases, bool_cases, and_second, or_none_first, or_none_second}
use Rattle.soqe_form.specs.declared.form.PVar.{PVar}
use Rattle.soqe_form.specs.declared.form.Pred.{Pred}
use Rattle.soqe_form.specs.declared.form.Form.{Form, True, False, Equal, Atom, Not', And', Or', Imp', Iff', All', Ex', All2, All2', Ex2, Ex2', end_of-Form as end, more_of-Form as one}
use Rattle.soqe_form.specs.Boxes.{boxes}
use Rattle.soqe_form.specs.Free.{free_pred}
use Rattle.soqe_form.specs.FreePreds.{count, same_pred, hides, has_free, has_atom, over_pred}
use Rattle.soqe_form.specs.Mentions.{depth}
use Rattle.soqe_form.specs.Places.{has_blocks}
use Rattle.soqe_subst.specs.PredRenaming.{renamed_pred, renumbered}
use Rattle.soqe_form.specs.Sorted.{sorted}
use Rattle.soqe_subst.specs.Substitution.{renamed, sub}
use Rattle.soqe_term.specs.Renumber.{numbered}
use Rattle.soqe_subst.proofs.SubstitutedBlocks.{has_blocks-renamed, has_blocks-sub}
use Rattle.soqe_subst.proofs.FreeAtoms.{has_atom-any, has_atom-none, has_atom-lacks, has_atom-renamed, has_atom-renamed_pred, has_atom-sub, sorted-counts}
use Rattle.soqe_subst.proofs.PredRenamings.{depth-renamed_pred, hides-none}
use Rattle.soqe_subst.proofs.PredSorts.{pred_sorts-over_pred}
use Rattle.soqe_subst.proofs.Renamings.{depth-renamed, depth-positive}
use Rattle.soqe_psub.specs.PredSubst.{arguments, catches_var, fresh_var, new_body, catches_pred, fresh_pred, new_pred_binder, new_pred_body, atom_sub, pred_sub}
use Rattle.soqe_psub.specs.PredSubstLaws.{param_sorts}
use Rattle.soqe_psub.proofs.NewNumbers.{fresh_pred-is}

-- ---- atoms of the predicate

module _ (q : Pred) (xs : List Var) (b : Form) (c : ℕ → Bool) (lacks : has_free q b ≡ false) where
  -- the test, and not as many arguments as there are parameters
  abbrev pub unmatched : ℕ → Bool
  unmatched n = c n && not (eqb n (length xs))

  abbrev Leaves : ℕ → Type 0
  Leaves k = (f : Form) → depth f ≤ k → has_atom q c (pred_sub k q xs b f) ≡ has_atom q unmatched f

  matched : (s t e : Bool) → (s && e) ≡ true → false ≡ (s && (t && not e))
  matched true true true h = refl
  matched true false true h = refl
  matched true t false h = let h : false ≡ true = h in cc
  matched false t e h = refl

  mismatched : (s t e : Bool) → (s && e) ≡ false → (s && t) ≡ (s && (t && not e))
  mismatched true t true h = let h : true ≡ false = h in cc
  mismatched true true false h = refl
  mismatched true false false h = refl
  mismatched false t e h = refl

  leaves_atom : (p : Pred) (ts : Terms) → has_atom q c (atom_sub q xs b p ts) ≡ (same_pred q p && unmatched (count ts))
  leaves_atom p ts =
      by_cases (λ r. has_atom q c r ≡ (same_pred q p && unmatched (count ts))) (same_pred q p && eqb (count ts) (length xs)) (sub (depth b) (arguments xs ts) b) (Atom p ts)
      (λ h. has_atom-sub q c (depth b) (arguments xs ts) b (omega arith) ∙ has_atom-lacks q c b lacks ∙ matched (same_pred q p) (c (count ts)) (eqb (count ts) (length xs)) h)
      (λ h. mismatched (same_pred q p) (c (count ts)) (eqb (count ts) (length xs)) h)

  below_var : (k : ℕ) (y : Var) (f : Form) → Leaves k → depth f ≤ k → has_atom q c (pred_sub k q xs b (new_body q xs b y f)) ≡ has_atom q unmatched f
  below_var k y f h d =
      let z : Var = numbered y (fresh_var xs b y f) in
      by_cases (λ g. has_atom q c (pred_sub k q xs b g) ≡ has_atom q unmatched f) (catches_var q xs b y f) (renamed y.num z f) f
      (λ _. h (renamed y.num z f) (omega (arith, depth-renamed y.num z f)) ∙ has_atom-renamed q unmatched y.num z f)
      (λ _. h f d)

  renamed_below : (k : ℕ) (p : PVar) (n : ℕ) (f : Form) → Leaves k → depth f ≤ k → hides p.num q ≡ false → hides n q ≡ false
      → cond (hides n q) false (has_atom q c (pred_sub k q xs b (renamed_pred p.num n f))) ≡ has_atom q unmatched f
  renamed_below k p n f h d shown beside =
      ap (λ o. cond o false (has_atom q c (pred_sub k q xs b (renamed_pred p.num n f)))) beside
      ∙ h (renamed_pred p.num n f) (omega (arith, depth-renamed_pred p.num n f))
      ∙ has_atom-renamed_pred q unmatched p.num n f beside
      ∙ ap (λ o. cond o false (has_atom q unmatched f)) shown

  below_pred : (k : ℕ) (p : PVar) (f : Form) → Leaves k → depth f ≤ k → hides p.num q ≡ false
      → cond (hides (new_pred_binder q b p f).num q) false (has_atom q c (pred_sub k q xs b (new_pred_body q b p f))) ≡ has_atom q unmatched f
  below_pred k p f h d shown =
      let n : ℕ = fresh_pred b p f in
      bool_cases (λ o. cond (hides (cond o (renumbered p n) p).num q) false (has_atom q c (pred_sub k q xs b (cond o (renamed_pred p.num n f) f))) ≡ has_atom q unmatched f) (catches_pred q b p f)
      (λ o. renamed_below k p n f h d shown (hides-none q n f (fresh_pred-is b p f).not_f (and_second (free_pred p.num b) (has_free q f) o)))
      (λ o. ap (λ u. cond u false (has_atom q c (pred_sub k q xs b f))) shown ∙ h f d)

  leaves_all2 : (k : ℕ) (p : PVar) (f : Form) → Leaves k → depth f ≤ k
      → has_atom q c (cond (hides p.num q) (All2 p f) (All2 (new_pred_binder q b p f) (pred_sub k q xs b (new_pred_body q b p f)))) ≡ cond (hides p.num q) false (has_atom q unmatched f)
  unfolding boxes
  leaves_all2 k p f h d =
      by_cases (λ r. has_atom q c r ≡ cond (hides p.num q) false (has_atom q unmatched f)) (hides p.num q) (All2 p f) (All2 (new_pred_binder q b p f) (pred_sub k q xs b (new_pred_body q b p f)))
      (λ e. ap (λ o. cond o false (has_atom q c f)) e ∙ sym (ap (λ o. cond o false (has_atom q unmatched f)) e))
      (λ e. below_pred k p f h d e ∙ sym (ap (λ o. cond o false (has_atom q unmatched f)) e))

  leaves_ex2 : (k : ℕ) (p : PVar) (f : Form) → Leaves k → depth f ≤ k
      → has_atom q c (cond (hides p.num q) (Ex2 p f) (Ex2 (new_pred_binder q b p f) (pred_sub k q xs b (new_pred_body q b p f)))) ≡ cond (hides p.num q) false (has_atom q unmatched f)
  unfolding boxes
  leaves_ex2 k p f h d =
      by_cases (λ r. has_atom q c r ≡ cond (hides p.num q) false (has_atom q unmatched f)) (hides p.num q) (Ex2 p f) (Ex2 (new_pred_binder q b p f) (pred_sub k q xs b (new_pred_body q b p f)))
      (λ e. ap (λ o. cond o false (has_atom q c f)) e ∙ sym (ap (λ o. cond o false (has_atom q unmatched f)) e))
      (λ e. below_pred k p f h d e ∙ sym (ap (λ o. cond o false (has_atom q unmatched f)) e))

  -- the atoms with another number of arguments are left, and no others
  pub has_atom-pred_sub : (k : ℕ) → Leaves k
  unfolding boxes
  has_atom-pred_sub zero f d = let p : 0 < depth f = depth-positive f in absurd (omega arith)
  has_atom-pred_sub (suc k) True d = refl
  has_atom-pred_sub (suc k) False d = refl
  has_atom-pred_sub (suc k) (Equal s t) d = refl
  has_atom-pred_sub (suc k) (Atom p ts) d = leaves_atom p ts
  has_atom-pred_sub (suc k) (Not' _ (one f end)) d = has_atom-pred_sub k f (omega arith)
  has_atom-pred_sub (suc k) (And' _ (one f end) _ (one g end)) d = λ i. has_atom-pred_sub k f (omega arith) i || has_atom-pred_sub k g (omega arith) i
  has_atom-pred_sub (suc k) (Or' _ (one f end) _ (one g end)) d = λ i. has_atom-pred_sub k f (omega arith) i || has_atom-pred_sub k g (omega arith) i
  has_atom-pred_sub (suc k) (Imp' _ (one f end) _ (one g end)) d = λ i. has_atom-pred_sub k f (omega arith) i || has_atom-pred_sub k g (omega arith) i
  has_atom-pred_sub (suc k) (Iff' _ (one f end) _ (one g end)) d = λ i. has_atom-pred_sub k f (omega arith) i || has_atom-pred_sub k g (omega arith) i
  has_atom-pred_sub (suc k) (All' y _ (one f end)) d = below_var k y f (has_atom-pred_sub k) (omega arith)
  has_atom-pred_sub (suc k) (Ex' y _ (one f end)) d = below_var k y f (has_atom-pred_sub k) (omega arith)
  has_atom-pred_sub (suc k) (All2' p _ (one f end)) d = leaves_all2 k p f (has_atom-pred_sub k) (omega arith)
  has_atom-pred_sub (suc k) (Ex2' p _ (one f end)) d = leaves_ex2 k p f (has_atom-pred_sub k) (omega arith)

not_both : (b : Bool) → (b && not b) ≡ false
not_both true = refl
not_both false = refl

pub gone : (k : ℕ) (q : Pred) (xs : List Var) (b f : Form) → depth f ≤ k → has_free q b ≡ false → has_atom q (λ n. eqb n (length xs)) (pred_sub k q xs b f) ≡ false
gone k q xs b f d lacks =
    has_atom-pred_sub q xs b (λ n. eqb n (length xs)) lacks k f d ∙ ap (λ c. has_atom q c f) (λ i n. not_both (eqb n (length xs)) i) ∙ has_atom-none q f

pub gone-sorted : (k : ℕ) (q : Pred) (xs : List Var) (b f : Form) → depth f ≤ k → has_free q b ≡ false → (e : Sorting) → sorted (over_pred e q (param_sorts xs)) f ≡ true
    → has_free q (pred_sub k q xs b f) ≡ false
gone-sorted k q xs b f d lacks e o =
    sym (has_atom-any q (pred_sub k q xs b f)) ∙ has_atom-pred_sub q xs b (λ n. true) lacks k f d
    ∙ ap (λ l. has_atom q (λ n. not (eqb n l)) f) (sym (length-map xs (λ (x : Var). x.sort)))
    ∙ sorted-counts q (param_sorts xs) (over_pred e q (param_sorts xs)) f (pred_sorts-over_pred e q (param_sorts xs)) o

-- ---- quantifiers of predicates

module _ (q : Pred) (xs : List Var) (b : Form) (bare : has_blocks b ≡ false) where
  abbrev Bare : ℕ → Type 0
  Bare k = (f : Form) → depth f ≤ k → has_blocks f ≡ false → has_blocks (pred_sub k q xs b f) ≡ false

  bare_atom : (p : Pred) (ts : Terms) → has_blocks (atom_sub q xs b p ts) ≡ false
  bare_atom p ts =
      by_cases (λ r. has_blocks r ≡ false) (same_pred q p && eqb (count ts) (length xs)) (sub (depth b) (arguments xs ts) b) (Atom p ts)
      (λ _. has_blocks-sub (depth b) (arguments xs ts) b ∙ bare) (λ _. refl)

  bare_below : (k : ℕ) (y : Var) (f : Form) → Bare k → depth f ≤ k → has_blocks f ≡ false → has_blocks (pred_sub k q xs b (new_body q xs b y f)) ≡ false
  bare_below k y f h d o =
      let z : Var = numbered y (fresh_var xs b y f) in
      by_cases (λ g. has_blocks (pred_sub k q xs b g) ≡ false) (catches_var q xs b y f) (renamed y.num z f) f
      (λ _. h (renamed y.num z f) (omega (arith, depth-renamed y.num z f)) (has_blocks-renamed y.num z f ∙ o))
      (λ _. h f d o)

  bare_both : (k : ℕ) (f g : Form) → Bare k → depth f ≤ k → depth g ≤ k → (has_blocks f || has_blocks g) ≡ false → (has_blocks (pred_sub k q xs b f) || has_blocks (pred_sub k q xs b g)) ≡ false
  bare_both k f g h df dg o =
      or_from (has_blocks (pred_sub k q xs b f)) (has_blocks (pred_sub k q xs b g)) (h f df (or_none_first (has_blocks f) (has_blocks g) o)) (h g dg (or_none_second (has_blocks f) (has_blocks g) o))

  pub has_blocks-pred_sub : (k : ℕ) → Bare k
  unfolding boxes
  has_blocks-pred_sub zero f d o = let p : 0 < depth f = depth-positive f in absurd (omega arith)
  has_blocks-pred_sub (suc k) True d o = refl
  has_blocks-pred_sub (suc k) False d o = refl
  has_blocks-pred_sub (suc k) (Equal s t) d o = refl
  has_blocks-pred_sub (suc k) (Atom p ts) d o = bare_atom p ts
  has_blocks-pred_sub (suc k) (Not' _ (one f end)) d o = has_blocks-pred_sub k f (omega arith) o
  has_blocks-pred_sub (suc k) (And' _ (one f end) _ (one g end)) d o = bare_both k f g (has_blocks-pred_sub k) (omega arith) (omega arith) o
  has_blocks-pred_sub (suc k) (Or' _ (one f end) _ (one g end)) d o = bare_both k f g (has_blocks-pred_sub k) (omega arith) (omega arith) o
  has_blocks-pred_sub (suc k) (Imp' _ (one f end) _ (one g end)) d o = bare_both k f g (has_blocks-pred_sub k) (omega arith) (omega arith) o
  has_blocks-pred_sub (suc k) (Iff' _ (one f end) _ (one g end)) d o = bare_both k f g (has_blocks-pred_sub k) (omega arith) (omega arith) o
  has_blocks-pred_sub (suc k) (All' y _ (one f end)) d o = bare_below k y f (has_blocks-pred_sub k) (omega arith) o
  has_blocks-pred_sub (suc k) (Ex' y _ (one f end)) d o = bare_below k y f (has_blocks-pred_sub k) (omega arith) o
  has_blocks-pred_sub (suc k) (All2' p _ (one f end)) d o = absurd (both_ways true o refl)
  has_blocks-pred_sub (suc k) (Ex2' p _ (one f end)) d o = absurd (both_ways true o refl)
