-- A predicate replaced: any depth that is enough gives the same result, and a formula without the predicate stays as it is.
use Rattle.std.proofs.Common.{◌≡◌, ℕ, zero, suc, ◌<◌, ◌≤◌, Bool, true, false, cond, eqb, not, ◌&&◌, List, length, refl, sym, ◌∙◌, ap, arith}
use Rattle.soqe_term.specs.declared.term.Var.{Var}
use Rattle.soqe_number.proofs.Choices.{by_cases, or_none_first, or_none_second}
use Rattle.soqe_form.specs.declared.form.PVar.{PVar}
use Rattle.soqe_form.specs.declared.form.Pred.{Pred}
use Rattle.soqe_form.specs.declared.form.Form.{Form, True, False, Equal, Atom, Not, Not', And, And', Or, Or', Imp, Imp', Iff, Iff', All, All', Ex, Ex', All2, All2', Ex2, Ex2', end_of-Form as end, more_of-Form as one}
use Rattle.soqe_form.specs.Boxes.{boxes}
use Rattle.soqe_form.specs.Free.{free, free_pred}
use Rattle.soqe_form.specs.FreePreds.{count, hides, has_free}
use Rattle.soqe_form.specs.FreeVars.{is_among}
use Rattle.soqe_form.specs.Mentions.{depth}
use Rattle.soqe_subst.specs.PredRenaming.{renamed_pred, renumbered}
use Rattle.soqe_subst.specs.Substitution.{renamed, sub}
use Rattle.soqe_term.specs.Renumber.{numbered}
use Rattle.soqe_subst.proofs.PredRenamings.{depth-renamed_pred}
use Rattle.soqe_subst.proofs.Renamings.{depth-renamed, depth-positive}
use Rattle.soqe_psub.specs.PredSubst.{arguments, catches_var, fresh_var, new_binder, new_body, catches_pred, fresh_pred, new_pred_binder, new_pred_body, pred_sub, IsPredSub}

and_none : (a b : Bool) → b ≡ false → (a && b) ≡ false
and_none true b h = h
and_none false b h = refl

module _ (q : Pred) (xs : List Var) (b : Form) where
  -- ---- a depth that is enough

  no_deeper : (y : Var) (f : Form) → depth (new_body q xs b y f) ≤ depth f
  no_deeper y f =
      by_cases (λ g. depth g ≤ depth f) (catches_var q xs b y f) (renamed y.num (numbered y (fresh_var xs b y f)) f) f
      (λ _. omega (arith, depth-renamed y.num (numbered y (fresh_var xs b y f)) f)) (λ _. omega arith)

  no_deeper_pred : (p : PVar) (f : Form) → depth (new_pred_body q b p f) ≤ depth f
  no_deeper_pred p f =
      by_cases (λ g. depth g ≤ depth f) (catches_pred q b p f) (renamed_pred p.num (fresh_pred b p f) f) f
      (λ _. omega (arith, depth-renamed_pred p.num (fresh_pred b p f) f)) (λ _. omega arith)

  enough : (k j : ℕ) (f : Form) → depth f ≤ k → depth f ≤ j → pred_sub k q xs b f ≡ pred_sub j q xs b f
  unfolding boxes
  enough zero j f h i = let p : 0 < depth f = depth-positive f in absurd (omega arith)
  enough (suc k) zero f h i = let p : 0 < depth f = depth-positive f in absurd (omega arith)
  enough (suc k) (suc j) True h i = refl
  enough (suc k) (suc j) False h i = refl
  enough (suc k) (suc j) (Equal s t) h i = refl
  enough (suc k) (suc j) (Atom p ts) h i = refl
  enough (suc k) (suc j) (Not' _ (one f end)) h i = ap Not (enough k j f (omega arith) (omega arith))
  enough (suc k) (suc j) (And' _ (one f end) _ (one g end)) h i = λ t. And (enough k j f (omega arith) (omega arith) t) (enough k j g (omega arith) (omega arith) t)
  enough (suc k) (suc j) (Or' _ (one f end) _ (one g end)) h i = λ t. Or (enough k j f (omega arith) (omega arith) t) (enough k j g (omega arith) (omega arith) t)
  enough (suc k) (suc j) (Imp' _ (one f end) _ (one g end)) h i = λ t. Imp (enough k j f (omega arith) (omega arith) t) (enough k j g (omega arith) (omega arith) t)
  enough (suc k) (suc j) (Iff' _ (one f end) _ (one g end)) h i = λ t. Iff (enough k j f (omega arith) (omega arith) t) (enough k j g (omega arith) (omega arith) t)
  enough (suc k) (suc j) (All' y _ (one f end)) h i =
      let d : depth (new_body q xs b y f) ≤ depth f = no_deeper y f in
      ap (All (new_binder q xs b y f)) (enough k j (new_body q xs b y f) (omega arith) (omega arith))
  enough (suc k) (suc j) (Ex' y _ (one f end)) h i =
      let d : depth (new_body q xs b y f) ≤ depth f = no_deeper y f in
      ap (Ex (new_binder q xs b y f)) (enough k j (new_body q xs b y f) (omega arith) (omega arith))
  enough (suc k) (suc j) (All2' p _ (one f end)) h i =
      let d : depth (new_pred_body q b p f) ≤ depth f = no_deeper_pred p f in
      ap (λ g. cond (hides p.num q) (All2 p f) (All2 (new_pred_binder q b p f) g)) (enough k j (new_pred_body q b p f) (omega arith) (omega arith))
  enough (suc k) (suc j) (Ex2' p _ (one f end)) h i =
      let d : depth (new_pred_body q b p f) ≤ depth f = no_deeper_pred p f in
      ap (λ g. cond (hides p.num q) (Ex2 p f) (Ex2 (new_pred_binder q b p f) g)) (enough k j (new_pred_body q b p f) (omega arith) (omega arith))

  pub is_pred_sub : (f : Form) → IsPredSub q xs b f (pred_sub (depth f) q xs b f)
  is_pred_sub f = record { by = λ k h. enough (depth f) k f (omega arith) h }

  pub pred_sub-unique : (f r t : Form) → IsPredSub q xs b f r → IsPredSub q xs b f t → r ≡ t
  pred_sub-unique f r t h i = h.by (depth f) (omega arith) ∙ sym (i.by (depth f) (omega arith))

  -- ---- a formula without the predicate

  none-shown : (p : PVar) (f : Form) → cond (hides p.num q) false (has_free q f) ≡ false → hides p.num q ≡ false → has_free q f ≡ false
  none-shown p f h e = sym (ap (λ o. cond o false (has_free q f)) e) ∙ h

  lacks : (k : ℕ) (f : Form) → has_free q f ≡ false → depth f ≤ k → pred_sub k q xs b f ≡ f
  unfolding boxes
  lacks zero f h i = let p : 0 < depth f = depth-positive f in absurd (omega arith)
  lacks (suc k) True h i = refl
  lacks (suc k) False h i = refl
  lacks (suc k) (Equal s t) h i = refl
  lacks (suc k) (Atom p ts) h i = ap (λ c. cond (c && eqb (count ts) (length xs)) (sub (depth b) (arguments xs ts) b) (Atom p ts)) h
  lacks (suc k) (Not' _ (one f end)) h i = ap Not (lacks k f h (omega arith))
  lacks (suc k) (And' _ (one f end) _ (one g end)) h i =
      λ t. And (lacks k f (or_none_first (has_free q f) (has_free q g) h) (omega arith) t) (lacks k g (or_none_second (has_free q f) (has_free q g) h) (omega arith) t)
  lacks (suc k) (Or' _ (one f end) _ (one g end)) h i =
      λ t. Or (lacks k f (or_none_first (has_free q f) (has_free q g) h) (omega arith) t) (lacks k g (or_none_second (has_free q f) (has_free q g) h) (omega arith) t)
  lacks (suc k) (Imp' _ (one f end) _ (one g end)) h i =
      λ t. Imp (lacks k f (or_none_first (has_free q f) (has_free q g) h) (omega arith) t) (lacks k g (or_none_second (has_free q f) (has_free q g) h) (omega arith) t)
  lacks (suc k) (Iff' _ (one f end) _ (one g end)) h i =
      λ t. Iff (lacks k f (or_none_first (has_free q f) (has_free q g) h) (omega arith) t) (lacks k g (or_none_second (has_free q f) (has_free q g) h) (omega arith) t)
  lacks (suc k) (All' y _ (one f end)) h i =
      (λ t. All (cond (and_none (free y.num b && not (is_among xs y.num)) (has_free q f) h t) (numbered y (fresh_var xs b y f)) y)
      (pred_sub k q xs b (cond (and_none (free y.num b && not (is_among xs y.num)) (has_free q f) h t) (renamed y.num (numbered y (fresh_var xs b y f)) f) f)))
      ∙ ap (All y) (lacks k f h (omega arith))
  lacks (suc k) (Ex' y _ (one f end)) h i =
      (λ t. Ex (cond (and_none (free y.num b && not (is_among xs y.num)) (has_free q f) h t) (numbered y (fresh_var xs b y f)) y)
      (pred_sub k q xs b (cond (and_none (free y.num b && not (is_among xs y.num)) (has_free q f) h t) (renamed y.num (numbered y (fresh_var xs b y f)) f) f)))
      ∙ ap (Ex y) (lacks k f h (omega arith))
  lacks (suc k) (All2' p _ (one f end)) h i =
      by_cases (λ r. r ≡ All2 p f) (hides p.num q) (All2 p f) (All2 (new_pred_binder q b p f) (pred_sub k q xs b (new_pred_body q b p f))) (λ _. refl)
      (λ e. let n : has_free q f ≡ false = none-shown p f h e in
      (λ t. All2 (cond (and_none (free_pred p.num b) (has_free q f) n t) (renumbered p (fresh_pred b p f)) p)
      (pred_sub k q xs b (cond (and_none (free_pred p.num b) (has_free q f) n t) (renamed_pred p.num (fresh_pred b p f) f) f)))
      ∙ ap (All2 p) (lacks k f n (omega arith)))
  lacks (suc k) (Ex2' p _ (one f end)) h i =
      by_cases (λ r. r ≡ Ex2 p f) (hides p.num q) (Ex2 p f) (Ex2 (new_pred_binder q b p f) (pred_sub k q xs b (new_pred_body q b p f))) (λ _. refl)
      (λ e. let n : has_free q f ≡ false = none-shown p f h e in
      (λ t. Ex2 (cond (and_none (free_pred p.num b) (has_free q f) n t) (renumbered p (fresh_pred b p f)) p)
      (pred_sub k q xs b (cond (and_none (free_pred p.num b) (has_free q f) n t) (renamed_pred p.num (fresh_pred b p f) f) f)))
      ∙ ap (Ex2 p) (lacks k f n (omega arith)))

  pub pred_sub-lacks : (f : Form) → has_free q f ≡ false → IsPredSub q xs b f f
  pred_sub-lacks f h = record { by = λ k i. sym (lacks k f h i) }
