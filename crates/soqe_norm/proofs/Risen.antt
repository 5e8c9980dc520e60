-- Truth rises with a table that grows at the only sign that occurs.
use Rattle.std.proofs.Common.{◌≡◌, ℕ, zero, suc, Bool, true, false, cond, eqb, not, ◌||◌, ◌&&◌, map, List, ◌∷◌, refl, sym, ◌∙◌, ap, ⊎_elim}
use Rattle.std.proofs.lemmas.Bool.{eqb-true, eq-eqb, and_parts, and_from, or_cases, or_left, or_right, or_parts}
use Rattle.soqe_term.specs.World.{World, with_var, with_bound}
use Rattle.soqe_term.specs.Value.{values}
use Rattle.soqe_number.specs.Finite.{every, some, every_list, some_list, product, entry}
use Rattle.soqe_number.proofs.Choices.{same_test}
use Rattle.soqe_term.proofs.Worlds.{changed-again, changed-commutes, value-bound, values-bound}
use Rattle.soqe_form.specs.declared.form.Pred.{Pred}
use Rattle.soqe_form.specs.declared.form.Pred.TheVariants.{Decl, Bound}
use Rattle.soqe_form.specs.declared.form.Form.{Form, True, False, Equal, Atom, Not', And', Or', Imp', Iff', All', Ex', All2', Ex2', end_of-Form as end, more_of-Form as one}
use Rattle.soqe_form.specs.Truth.{truth, holds, alike}
use Rattle.soqe_form.specs.FreePreds.{same_pred}
use Rattle.soqe_norm.specs.Rises.{has_sign, Grows}

every-rises : (n : ℕ) (p q : ℕ → Bool) → ((a : ℕ) → p a ≡ true → q a ≡ true) → every n p ≡ true → every n q ≡ true
every-rises zero p q h t = refl
every-rises (suc n) p q h t = let r = and_parts (every n p) (p n) t in and_from (every n q) (q n) (every-rises n p q h r.0) (h n r.1)

some-rises : (n : ℕ) (p q : ℕ → Bool) → ((a : ℕ) → p a ≡ true → q a ≡ true) → some n p ≡ true → some n q ≡ true
some-rises zero p q h t = t
some-rises (suc n) p q h t = ⊎_elim (λ r. or_left (some n q) (q n) (some-rises n p q h r)) (λ r. or_right (some n q) (q n) (h n r)) (or_cases (some n p) (p n) t)

every_list-rises : (n : ℕ) (p q : List Bool → Bool) → ((t : List Bool) → p t ≡ true → q t ≡ true) → every_list n p ≡ true → every_list n q ≡ true
every_list-rises zero p q h t = h _ t
every_list-rises (suc n) p q h t =
    let r = and_parts (every_list n (λ t. p (true ∷ t))) (every_list n (λ t. p (false ∷ t))) t in
    and_from (every_list n (λ t. q (true ∷ t))) (every_list n (λ t. q (false ∷ t)))
    (every_list-rises n (λ t. p (true ∷ t)) (λ t. q (true ∷ t)) (λ t. h (true ∷ t)) r.0)
    (every_list-rises n (λ t. p (false ∷ t)) (λ t. q (false ∷ t)) (λ t. h (false ∷ t)) r.1)

some_list-rises : (n : ℕ) (p q : List Bool → Bool) → ((t : List Bool) → p t ≡ true → q t ≡ true) → some_list n p ≡ true → some_list n q ≡ true
some_list-rises zero p q h t = h _ t
some_list-rises (suc n) p q h t = ⊎_elim
    (λ r. or_left (some_list n (λ t. q (true ∷ t))) (some_list n (λ t. q (false ∷ t))) (some_list-rises n (λ t. p (true ∷ t)) (λ t. q (true ∷ t)) (λ t. h (true ∷ t)) r))
    (λ r. or_right (some_list n (λ t. q (true ∷ t))) (some_list n (λ t. q (false ∷ t))) (some_list-rises n (λ t. p (false ∷ t)) (λ t. q (false ∷ t)) (λ t. h (false ∷ t)) r))
    (or_cases (some_list n (λ t. p (true ∷ t))) (some_list n (λ t. p (false ∷ t))) t)

contra : (a b s : Bool) → (a ≡ s → b ≡ s) → b ≡ not s → a ≡ not s
contra true true true h k = k
contra true false true h k = let r : false ≡ true = h refl in cc
contra false b true h k = refl
contra true b false h k = refl
contra false true false h k = let r : true ≡ false = h refl in cc
contra false false false h k = k

pub grows-back : (s : Bool) (t u : List ℕ → Bool) → Grows s t u → Grows (not s) u t
grows-back s t u g args = contra (t args) (u args) s (g args)

not-falls : (a b : Bool) → (b ≡ true → a ≡ true) → not a ≡ true → not b ≡ true
not-falls true b h k = let k : false ≡ true = k in cc
not-falls false true h k = let r : false ≡ true = h refl in cc
not-falls false false h k = refl

-- of two tests that both fail, the one with the sign and the other one fail
each-sign : (f : Bool → Bool) → (f true || f false) ≡ false → (s : Bool) → f s ≡ false
each-sign f h true = (or_parts (f true) (f false) h).0
each-sign f h false = (or_parts (f true) (f false) h).1

module _ (m : ℕ) where
  atom-rises : (s : Bool) (w : World) (t u : List ℕ → Bool) (n : ℕ) (args : List ℕ) → (not s && eqb m n) ≡ false → Grows s t u
      → holds (with_bound w m t) (Bound n) args ≡ true → holds (with_bound w m u) (Bound n) args ≡ true
  atom-rises s w t u n args h g q = at_bound (eqb n m) refl q
    where
      sign : (s b : Bool) → b ≡ true → (not s && b) ≡ false → s ≡ true
      sign true b e h = refl
      sign false b e h = let r : true ≡ false = sym e ∙ h in cc

      at_bound : (b : Bool) → eqb n m ≡ b → cond b t (w.bound n) args ≡ true → cond b u (w.bound n) args ≡ true
      at_bound true e q = let k : s ≡ true = sign s (eqb m n) (eq-eqb m n (sym (eqb-true n m e))) h in g args (q ∙ sym k) ∙ k
      at_bound false e q = q

  pred-rises : (s : Bool) (w : World) (t u : List ℕ → Bool) (p : Pred) (args : List ℕ) → (not s && same_pred (Bound m) p) ≡ false → Grows s t u
      → holds (with_bound w m t) p args ≡ true → holds (with_bound w m u) p args ≡ true
  pred-rises s w t u (Decl n) args h g q = q
  pred-rises s w t u (Bound n) args h g q = atom-rises s w t u n args h g q

  -- below a binder of a predicate
  below-pred : (w : World) (t u v : List ℕ → Bool) (p : ℕ) (f : Form) (c : Bool) → cond (eqb m p) false c ≡ false →
      (c ≡ false → truth (with_bound (with_bound w p v) m t) f ≡ true → truth (with_bound (with_bound w p v) m u) f ≡ true) →
      truth (with_bound (with_bound w m t) p v) f ≡ true → truth (with_bound (with_bound w m u) p v) f ≡ true
  below-pred w t u v p f c h r q = choose (eqb m p) refl h
    where
      again : (t : List ℕ → Bool) → eqb m p ≡ true → truth (with_bound (with_bound w m t) p v) f ≡ truth (with_bound w p v) f
      again t e = ap (λ n. truth (with_bound (with_bound w n t) p v) f) (eqb-true m p e) ∙ (λ i. truth (record w { bound = changed-again w.bound p t v i }) f)

      swap : (t : List ℕ → Bool) → eqb m p ≡ false → truth (with_bound (with_bound w m t) p v) f ≡ truth (with_bound (with_bound w p v) m t) f
      swap t e i = truth (record w { bound = changed-commutes w.bound m p t v e i }) f

      choose : (b : Bool) → eqb m p ≡ b → cond b false c ≡ false → truth (with_bound (with_bound w m u) p v) f ≡ true
      choose true e h = again u e ∙ sym (again t e) ∙ q
      choose false e h = swap u e ∙ r h (sym (swap t e) ∙ q)

  abbrev pub Rises : Form → Type 0
  Rises f = (s : Bool) (w : World) (t u : List ℕ → Bool) → has_sign (not s) (Bound m) f ≡ false → Grows s t u → truth (with_bound w m t) f ≡ true → truth (with_bound w m u) f ≡ true

  iff-same : (f : Form) → Rises f → (s : Bool) (w : World) (t u : List ℕ → Bool) → (has_sign true (Bound m) f || has_sign false (Bound m) f) ≡ false → Grows s t u → truth (with_bound w m t) f ≡ truth (with_bound w m u) f
  iff-same f r s w t u h g =
      let none : (s : Bool) → has_sign s (Bound m) f ≡ false = each-sign (λ s. has_sign s (Bound m) f) h in
      same_test (truth (with_bound w m t) f) (truth (with_bound w m u) f) (r s w t u (none (not s)) g) (r (not s) w u t (none (not (not s))) (grows-back s t u g))

  pub truth-rises : (f : Form) → Rises f
  truth-rises True s w t u h g q = q
  truth-rises False s w t u h g q = q
  truth-rises (Equal a b) s w t u h g q =
      (λ i. eqb ((value-bound w m u a ∙ sym (value-bound w m t a)) i) ((value-bound w m u b ∙ sym (value-bound w m t b)) i)) ∙ q
  truth-rises (Atom p ts) s w t u h g q =
      let same : values (with_bound w m u) ts ≡ values (with_bound w m t) ts = values-bound w m u ts ∙ sym (values-bound w m t ts) in
      ap (holds (with_bound w m u) p) same ∙ pred-rises s w t u p (values (with_bound w m t) ts) h g q
  truth-rises (Not' _ (one f end)) s w t u h g q =
      not-falls (truth (with_bound w m t) f) (truth (with_bound w m u) f) (truth-rises f (not s) w u t h (grows-back s t u g)) q
  truth-rises (And' _ (one f end) _ (one k end)) s w t u h g q =
      let hs = or_parts (has_sign (not s) (Bound m) f) (has_sign (not s) (Bound m) k) h in
      let qs = and_parts (truth (with_bound w m t) f) (truth (with_bound w m t) k) q in
      and_from (truth (with_bound w m u) f) (truth (with_bound w m u) k) (truth-rises f s w t u hs.0 g qs.0) (truth-rises k s w t u hs.1 g qs.1)
  truth-rises (Or' _ (one f end) _ (one k end)) s w t u h g q =
      let hs = or_parts (has_sign (not s) (Bound m) f) (has_sign (not s) (Bound m) k) h in
      ⊎_elim (λ r. or_left (truth (with_bound w m u) f) (truth (with_bound w m u) k) (truth-rises f s w t u hs.0 g r)) (λ r. or_right (truth (with_bound w m u) f) (truth (with_bound w m u) k) (truth-rises k s w t u hs.1 g r))
      (or_cases (truth (with_bound w m t) f) (truth (with_bound w m t) k) q)
  truth-rises (Imp' _ (one f end) _ (one k end)) s w t u h g q =
      let hs = or_parts (has_sign (not (not s)) (Bound m) f) (has_sign (not s) (Bound m) k) h in
      ⊎_elim
      (λ r. or_left (not (truth (with_bound w m u) f)) (truth (with_bound w m u) k) (not-falls (truth (with_bound w m t) f) (truth (with_bound w m u) f) (truth-rises f (not s) w u t hs.0 (grows-back s t u g)) r))
      (λ r. or_right (not (truth (with_bound w m u) f)) (truth (with_bound w m u) k) (truth-rises k s w t u hs.1 g r))
      (or_cases (not (truth (with_bound w m t) f)) (truth (with_bound w m t) k) q)
  truth-rises (Iff' _ (one f end) _ (one k end)) s w t u h g q =
      let hs = or_parts (has_sign true (Bound m) f || has_sign false (Bound m) f) (has_sign true (Bound m) k || has_sign false (Bound m) k) h in
      (λ i. alike (sym (iff-same f (truth-rises f) s w t u hs.0 g) i) (sym (iff-same k (truth-rises k) s w t u hs.1 g) i)) ∙ q
  truth-rises (All' x _ (one f end)) s w t u h g q =
      every-rises (w.size x.sort) (λ a. truth (with_bound (with_var w x.num a) m t) f) (λ a. truth (with_bound (with_var w x.num a) m u) f) (λ a. truth-rises f s (with_var w x.num a) t u h g) q
  truth-rises (Ex' x _ (one f end)) s w t u h g q =
      some-rises (w.size x.sort) (λ a. truth (with_bound (with_var w x.num a) m t) f) (λ a. truth (with_bound (with_var w x.num a) m u) f) (λ a. truth-rises f s (with_var w x.num a) t u h g) q
  truth-rises (All2' p _ (one f end)) s w t u h g q =
      every_list-rises (product (map w.size p.args)) (λ v. truth (with_bound (with_bound w m t) p.num (entry (map w.size p.args) v)) f) (λ v. truth (with_bound (with_bound w m u) p.num (entry (map w.size p.args) v)) f)
      (λ v. below-pred w t u (entry (map w.size p.args) v) p.num f (has_sign (not s) (Bound m) f) h (λ n. truth-rises f s (with_bound w p.num (entry (map w.size p.args) v)) t u n g)) q
  truth-rises (Ex2' p _ (one f end)) s w t u h g q =
      some_list-rises (product (map w.size p.args)) (λ v. truth (with_bound (with_bound w m t) p.num (entry (map w.size p.args) v)) f) (λ v. truth (with_bound (with_bound w m u) p.num (entry (map w.size p.args) v)) f)
      (λ v. below-pred w t u (entry (map w.size p.args) v) p.num f (has_sign (not s) (Bound m) f) h (λ n. truth-rises f s (with_bound w p.num (entry (map w.size p.args) v)) t u n g)) q
