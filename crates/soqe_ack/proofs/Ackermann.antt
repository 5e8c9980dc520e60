-- Ackermann's lemma in one world: the extreme table.
--
-- Let the conjuncts with an occurrence of the sign be guards. Where a table makes them all true, it has the sign wherever
-- one of their conditions is true. The table of the value has the sign there and nowhere else, so it is the extreme one: for
-- the positive sign the least, for the negative the greatest. The other conjuncts have occurrences of the opposite sign
-- alone, so what is true of them with some table stays true with the extreme one. Back, the extreme table itself makes
-- the guards true: their rests are true, and it has the sign wherever a condition is.
use Rattle.std.proofs.Common.{◌≡◌, ℕ, Bool, true, false, cond, eqb, not, ◌&&◌, List, [], ◌∷◌, Some, length, refl, sym, ◌∙◌, ap, ⊎_elim}
use Rattle.std.proofs.lemmas.Bool.{eqb-true, eq-eqb, and_parts, and_from, or_cases, or_left, or_right, not-false, both_ways}
use Rattle.soqe_term.specs.declared.term.Var.{Var}
use Rattle.soqe_term.specs.World.{World, with_bound}
use Rattle.soqe_term.specs.Sorting.{Sorting, over_bound}
use Rattle.soqe_term.specs.Fits.{Fits, EqualIn}
use Rattle.soqe_number.proofs.Choices.{not_twice}
use Rattle.soqe_term.proofs.Values.{fits-bound}
use Rattle.soqe_term.proofs.Worlds.{changed-at}
use Rattle.soqe_form.specs.declared.form.Pred.TheVariants.{Bound}
use Rattle.soqe_form.specs.declared.form.Form.{Form}
use Rattle.soqe_form.specs.FreePreds.{has_free}
use Rattle.soqe_form.specs.Sorted.{sorted}
use Rattle.soqe_form.specs.Truth.{truth}
use Rattle.soqe_form.proofs.FreePreds.{truth-unchanged}
use Rattle.soqe_form.proofs.Tables.{truth-tables}
use Rattle.soqe_norm.specs.Nnf.{nnf}
use Rattle.soqe_norm.specs.Rises.{has_sign, Grows}
use Rattle.soqe_norm.proofs.Nnfs.{truth-nnf}
use Rattle.soqe_norm.proofs.Risen.{grows-back, truth-rises}
use Rattle.soqe_psub.specs.PredSubstLaws.{with_args, table}
use Rattle.soqe_psub.proofs.PredSubLaws.{truth_of}
use Rattle.soqe_ack.specs.Acked.{AreConditions, no_more, no_guard, guard, value_of, AreCleared, all_done, replaced, rest}
use Rattle.soqe_norm.specs.Folds.{any_of}
use Rattle.soqe_ack.specs.GuardLaws.{at, AgreeOff, elements_of, sorts_of, StandNowhere, AreDistinct}
use Rattle.soqe_ack.specs.Guards.{IsGuard}
use Rattle.soqe_norm.proofs.Folded.{any_passes, all_pass, truth-any}
use Rattle.soqe_ack.proofs.GuardOf.{unique}
use Rattle.soqe_ack.proofs.GuardParts.{parts-lack}
use Rattle.soqe_ack.proofs.GuardTruth.{gives, gives-rest, takes}
use Rattle.soqe_ack.proofs.Parameters.{no_false, off-with}
use Rattle.soqe_ack.proofs.ParameterNumbers.{StandInNone, length-elements, length-in, elements-back, with-own}

-- the value has the sign where the condition is true
sign-from : (s : Bool) (v : World) (c : Form) → truth v c ≡ true → truth v (cond s c (nnf true c)) ≡ s
sign-from true v c h = h
sign-from false v c h = truth-nnf true v c ∙ ap not h

sign-to : (s : Bool) (v : World) (c : Form) → truth v (cond s c (nnf true c)) ≡ s → truth v c ≡ true
sign-to true v c h = h
sign-to false v c h = not-false (truth v c) (sym (truth-nnf true v c) ∙ h)

module _ (s : Bool) (m : ℕ) (xs : List Var) (distinct : AreDistinct xs) (w : World) where
  -- a table of the predicate changes no condition and no rest
  unchanged : (v : World) (t : List ℕ → Bool) (f : Form) → has_free (Bound m) f ≡ false → truth (with_bound v m t) f ≡ truth v f
  unchanged v t f h = truth-unchanged v (Bound m) t f h

  -- where a true guard's condition is true, the table has the sign
  guard-gives : (t : List ℕ → Bool) {f c r : Form} → IsGuard s (Bound m) xs f c r → StandNowhere xs f → truth (with_bound w m t) f ≡ true
      → (d : ℕ → ℕ) → AgreeOff xs d w.element → truth (at w d) c ≡ true → t (elements_of d xs) ≡ s
  guard-gives t {f = f} {c = c} {r = r} g u h d off y =
      sym (ap (λ t. t (elements_of d xs)) (changed-at w.bound m t))
      ∙ gives s (Bound m) xs g u (with_bound w m t) h d off (unchanged (at w d) t c (parts-lack s (Bound m) xs f c r g).0 ∙ y)

  -- where all conjuncts are true and a condition is, the table has the sign
  conditions-give : (t : List ℕ → Bool) {fs cs : List Form} → AreConditions s (Bound m) xs fs cs → StandInNone xs fs → all_pass (truth (with_bound w m t)) fs ≡ true
      → (d : ℕ → ℕ) → AgreeOff xs d w.element → any_passes (truth (at w d)) cs ≡ true → t (elements_of d xs) ≡ s
  conditions-give t no_more u h d off y = no_false y
  conditions-give t (no_guard {f = f} {fs = fs} _ k) u h d off y =
      conditions-give t k u.1 (and_parts (truth (with_bound w m t) f) (all_pass (truth (with_bound w m t)) fs) h).1 d off y
  conditions-give t (guard {f = f} {c = c} {fs = fs} {cs = cs} _ g k) u h d off y =
      let hs = and_parts (truth (with_bound w m t) f) (all_pass (truth (with_bound w m t)) fs) h in
      ⊎_elim (λ z. guard-gives t g u.0 hs.0 d off z) (λ z. conditions-give t k u.1 hs.1 d off z) (or_cases (truth (at w d) c) (any_passes (truth (at w d)) cs) y)

  -- where a table that has the sign at least where the value's has makes the conjuncts true, what becomes of them is true
  cleared-true : (value : Form) (t : List ℕ → Bool) → Grows s (table w (Bound m) xs value) t → {fs gs : List Form} → AreCleared s (Bound m) xs value fs gs
      → all_pass (truth (with_bound w m t)) fs ≡ true → all_pass (truth w) gs ≡ true
  cleared-true value t grows all_done h = refl
  cleared-true value t grows (replaced {f = f} {g = g} {fs = fs} {gs = gs} none is k) h =
      let hs = and_parts (truth (with_bound w m t) f) (all_pass (truth (with_bound w m t)) fs) h in
      and_from (truth w g) (all_pass (truth w) gs)
      (truth_of (Bound m) xs value f g is w
      ∙ truth-rises m f (not s) w t (table w (Bound m) xs value) (ap (λ b. has_sign b (Bound m) f) (not_twice s) ∙ none) (grows-back s (table w (Bound m) xs value) t grows) hs.0)
      (cleared-true value t grows k hs.1)
  cleared-true value t grows (rest {f = f} {c = c} {r = r} {fs = fs} {gs = gs} _ g k) h =
      let hs = and_parts (truth (with_bound w m t) f) (all_pass (truth (with_bound w m t)) fs) h in
      and_from (truth w r) (all_pass (truth w) gs)
      (sym (unchanged w t r (parts-lack s (Bound m) xs f c r g).1) ∙ gives-rest s (Bound m) xs g (with_bound w m t) hs.0)
      (cleared-true value t grows k hs.1)

  -- a guard is true with a table that has the sign where its condition is true
  guard-takes : (e : Sorting) → Fits w e → (t : List ℕ → Bool) {f c r : Form} → IsGuard s (Bound m) xs f c r → StandNowhere xs f → sorted (over_bound e m (sorts_of xs)) f ≡ true
      → truth w r ≡ true → ((d : ℕ → ℕ) → AgreeOff xs d w.element → truth (at w d) c ≡ true → t (elements_of d xs) ≡ s) → truth (with_bound w m t) f ≡ true
  guard-takes e k t {f = f} {c = c} {r = r} g u o h y =
      let lack = parts-lack s (Bound m) xs f c r g in
      takes s (Bound m) xs distinct g u (with_bound w m t) (over_bound e m (sorts_of xs)) (fits-bound w e m (sorts_of xs) t k) o (changed-at e.bound m (Some (sorts_of xs)))
      (unchanged w t r lack.1 ∙ h)
      (λ d off _ z. ap (λ t. t (elements_of d xs)) (changed-at w.bound m t) ∙ y d off (sym (unchanged (at w d) t c lack.0) ∙ z))

  -- and back, with the value's table, where it has the sign wherever a condition is true
  value-true : (e : Sorting) → Fits w e → (value : Form) {fs gs : List Form} → AreCleared s (Bound m) xs value fs gs → {cs : List Form} → AreConditions s (Bound m) xs fs cs
      → StandInNone xs fs → all_pass (sorted (over_bound e m (sorts_of xs))) fs ≡ true
      → ((d : ℕ → ℕ) → AgreeOff xs d w.element → any_passes (truth (at w d)) cs ≡ true → table w (Bound m) xs value (elements_of d xs) ≡ s)
      → all_pass (truth w) gs ≡ true → all_pass (truth (with_bound w m (table w (Bound m) xs value))) fs ≡ true
  value-true e k value all_done _ u o y h = refl
  value-true e k value (replaced {f = f} {g = g} {fs = fs} {gs = gs} none is more) (no_guard _ conds) u o y h =
      let hs = and_parts (truth w g) (all_pass (truth w) gs) h in
      let os = and_parts (sorted (over_bound e m (sorts_of xs)) f) (all_pass (sorted (over_bound e m (sorts_of xs))) fs) o in
      and_from (truth (with_bound w m (table w (Bound m) xs value)) f) (all_pass (truth (with_bound w m (table w (Bound m) xs value))) fs)
      (sym (truth_of (Bound m) xs value f g is w) ∙ hs.0) (value-true e k value more conds u.1 os.1 y hs.1)
  value-true e k value (replaced {f = f} none is more) (guard has _ _) u o y h = absurd (both_ways (has_sign s (Bound m) f) none has)
  value-true e k value (rest {f = f} has _ _) (no_guard none _) u o y h = absurd (both_ways (has_sign s (Bound m) f) none has)
  value-true e k value (rest {f = f} {c = c} {r = r} {fs = fs} {gs = gs} _ g more) (guard {c = b} {cs = cs} _ g' conds) u o y h =
      let hs = and_parts (truth w r) (all_pass (truth w) gs) h in
      let os = and_parts (sorted (over_bound e m (sorts_of xs)) f) (all_pass (sorted (over_bound e m (sorts_of xs))) fs) o in
      and_from (truth (with_bound w m (table w (Bound m) xs value)) f) (all_pass (truth (with_bound w m (table w (Bound m) xs value))) fs)
      (guard-takes e k (table w (Bound m) xs value) g u.0 os.0 hs.0
      (λ d off z. y d off (or_left (truth (at w d) b) (any_passes (truth (at w d)) cs) (ap (truth (at w d)) (sym (unique s (Bound m) xs g g').0) ∙ z))))
      (value-true e k value more conds u.1 os.1 (λ d off z. y d off (or_right (truth (at w d) b) (any_passes (truth (at w d)) cs) z)) hs.1)

  -- at the parameters' own elements the table is the value
  table-at : (value : Form) (d : ℕ → ℕ) → AgreeOff xs d w.element → table w (Bound m) xs value (elements_of d xs) ≡ truth (at w d) value
  table-at value d off =
      ap (λ b. cond b (truth (at w (with_args w.element xs (elements_of d xs))) value) (w.bound m (elements_of d xs))) (eq-eqb (length (elements_of d xs)) (length xs) (length-elements d xs))
      ∙ (λ i. truth (at w (λ n. with-own w.element d xs off n i)) value)

  all-tables : (e : Sorting) → Fits w e → (g h : List ℕ → Bool) (fs : List Form) → all_pass (sorted (over_bound e m (sorts_of xs))) fs ≡ true → EqualIn w (sorts_of xs) g h
      → all_pass (truth (with_bound w m g)) fs ≡ all_pass (truth (with_bound w m h)) fs
  all-tables e k g h [] o r = refl
  all-tables e k g h (f ∷ fs) o r =
      let os = and_parts (sorted (over_bound e m (sorts_of xs)) f) (all_pass (sorted (over_bound e m (sorts_of xs))) fs) o in
      λ i. truth-tables w e m (sorts_of xs) g h f k os.0 r i && all-tables e k g h fs os.1 r i

  -- the table as it is at as many arguments as there are parameters
  cut : (List ℕ → Bool) → List ℕ → Bool
  cut t args = cond (eqb (length args) (length xs)) (t args) (w.bound m args)

  module _ (e : Sorting) (fits : Fits w e) {fs gs cs : List Form} (conds : AreConditions s (Bound m) xs fs cs) (cleared : AreCleared s (Bound m) xs (value_of s cs) fs gs)
      (nowhere : StandInNone xs fs) (o : all_pass (sorted (over_bound e m (sorts_of xs))) fs ≡ true) where
    pub one-true : (t : List ℕ → Bool) → all_pass (truth (with_bound w m t)) fs ≡ true → all_pass (truth w) gs ≡ true
    unfolding cut
    one-true t h = cleared-true (value_of s cs) (cut t) grows cleared there
      where
        there : all_pass (truth (with_bound w m (cut t))) fs ≡ true
        there = sym (all-tables e fits t (cut t) fs o (λ args l. sym (ap (λ b. cond b (t args) (w.bound m args)) (eq-eqb (length args) (length xs) (length-in w.size xs args l))))) ∙ h

        at_length : (args : List ℕ) (b : Bool) → eqb (length args) (length xs) ≡ b → cond b (truth (at w (with_args w.element xs args)) (value_of s cs)) (w.bound m args) ≡ s
            → cond b (t args) (w.bound m args) ≡ s
        at_length args false i y = y
        at_length args true i y =
            let d : ℕ → ℕ = with_args w.element xs args in
            let c : any_passes (truth (at w d)) cs ≡ true = sym (truth-any (at w d) cs) ∙ sign-to s (at w d) (any_of cs) y in
            sym (ap (λ b. cond b (t args) (w.bound m args)) i)
            ∙ sym (ap (cut t) (elements-back w.element xs args distinct (eqb-true (length args) (length xs) i)))
            ∙ conditions-give (cut t) conds nowhere there d (off-with w.element xs args) c

        grows : Grows s (table w (Bound m) xs (value_of s cs)) (cut t)
        grows args y = at_length args (eqb (length args) (length xs)) refl y

    pub one-back : all_pass (truth w) gs ≡ true → all_pass (truth (with_bound w m (table w (Bound m) xs (value_of s cs)))) fs ≡ true
    one-back h = value-true e fits (value_of s cs) cleared conds nowhere o
        (λ d off y. table-at (value_of s cs) d off ∙ sign-from s (at w d) (any_of cs) (truth-any (at w d) cs ∙ y)) h
