-- A guard is true exactly where its rest is and the predicate has the sign wherever its condition is true.
--
-- Both directions go by induction on the guard. Towards its parts: a true literal makes the predicate have the sign at its
-- arguments, which are the parameters where the equations hold; at a disjunction the side without the predicate is false
-- where the condition holds, so the other side is true. Back from its parts: the parameters may be set to the arguments of
-- a literal, which puts the predicate's sign there; at a disjunction whose side without the predicate is false, the
-- condition of the whole is the condition of the other side.
use Rattle.std.proofs.Common.{◌≡◌, ℕ, ◌<◌, Bool, true, false, cond, eqb, not, ◌||◌, ◌&&◌, map, List, Some, refl, sym, ◌∙◌, ap, subst, ◌↔◌, ⊎_elim}
use Rattle.std.proofs.lemmas.Bool.{eqb-true, eqb-false, and_parts, and_from, or_cases, or_left, or_right, not-true, both_ways, cases_Bool}
use Rattle.soqe_term.specs.declared.term.Var.{Var}
use Rattle.soqe_term.specs.declared.term.Terms.{Terms}
use Rattle.soqe_term.specs.World.{World, with_var}
use Rattle.soqe_number.specs.Updates.{changed}
use Rattle.soqe_term.specs.Value.{values}
use Rattle.soqe_term.specs.Occurs.{occurs_any}
use Rattle.soqe_number.specs.Ranges.{InRange}
use Rattle.soqe_term.specs.Sorting.{Sorting, over_var, with_sorts, sorted_terms}
use Rattle.soqe_term.specs.Fits.{Fits}
use Rattle.soqe_number.proofs.Choices.{or_none_first, or_none_second}
use Rattle.soqe_number.proofs.Enumerations.{found, finds, every-at, every-from}
use Rattle.soqe_term.proofs.Values.{values-in, fits-var}
use Rattle.soqe_term.proofs.Worlds.{changed-off, changed-at, changed-again, changed-same}
use Rattle.soqe_form.specs.declared.form.Pred.{Pred}
use Rattle.soqe_form.specs.declared.form.Form.{Form, Ex}
use Rattle.soqe_form.specs.Boxes.{boxes}
use Rattle.soqe_form.specs.FreeVars.{is_among}
use Rattle.soqe_form.specs.Mentions.{mentions}
use Rattle.soqe_form.specs.Sorted.{sorted, pred_sorts}
use Rattle.soqe_form.specs.Truth.{truth, holds}
use Rattle.soqe_subst.proofs.FreeAtoms.{pred_sorts-over_var}
use Rattle.soqe_norm.specs.Nnf.{nnf}
use Rattle.soqe_norm.proofs.Nnfs.{truth-nnf}
use Rattle.soqe_psub.specs.PredSubstLaws.{with_args}
use Rattle.soqe_ack.specs.Guards.{literal, equations, IsGuard, lacking, literally, conjoined, quantified, on_right, on_left}
use Rattle.soqe_ack.specs.GuardLaws.{at, AgreeOff, elements_of, sorts_of, StandNowhere, AreDistinct, CoversAt}
use Rattle.soqe_ack.proofs.Parameters.{no_false, holds-at, truth-off, values-off, equations-true, equations-hold, same-elements, off-var, off-with, elements-with}

-- ---- literals

literal-mentions : (n : ℕ) (s : Bool) (q : Pred) (ts : Terms) → mentions n (literal s q ts) ≡ occurs_any n ts
unfolding boxes
literal-mentions n true q ts = refl
literal-mentions n false q ts = refl

literal-sorted : (e : Sorting) (s : Bool) (q : Pred) (ts : Terms) → sorted e (literal s q ts) ≡ with_sorts (λ sorts. sorted_terms e ts sorts) (pred_sorts e q)
unfolding boxes
literal-sorted e true q ts = refl
literal-sorted e false q ts = refl

literal-says : (w : World) (s : Bool) (q : Pred) (ts : Terms) → truth w (literal s q ts) ≡ true → holds w q (values w ts) ≡ s
unfolding boxes
literal-says w true q ts h = h
literal-says w false q ts h = not-true (holds w q (values w ts)) h

literal-said : (w : World) (s : Bool) (q : Pred) (ts : Terms) → holds w q (values w ts) ≡ s → truth w (literal s q ts) ≡ true
unfolding boxes
literal-said w true q ts h = h
literal-said w false q ts h = ap not h

-- a condition beside a formula that is false
not_beside : (w : World) (f : Form) → truth w (nnf true f) ≡ true → truth w f ≡ false
not_beside w f h = not-true (truth w f) (sym (truth-nnf true w f) ∙ h)

module _ (s : Bool) (q : Pred) (xs : List Var) where
  -- ---- from a guard to its parts

  pub gives-rest : {f c r : Form} → IsGuard s q xs f c r → (w : World) → truth w f ≡ true → truth w r ≡ true
  unfolding boxes
  gives-rest (lacking _) w t = t
  gives-rest (literally ts) w t = refl
  gives-rest (conjoined {f = f} {g = g} {r = r} {t = k} _ a b) w t =
      let ts = and_parts (truth w f) (truth w g) t in
      and_from (truth w r) (truth w k) (gives-rest a w ts.0) (gives-rest b w ts.1)
  gives-rest (quantified {x = x} {f = f} {r = r} _ a) w t =
      every-from (w.size x.sort) (λ v. truth (with_var w x.num v) r) (λ v l. gives-rest a (with_var w x.num v) (every-at (w.size x.sort) (λ v. truth (with_var w x.num v) f) t v l))
  gives-rest (on_right f {g = g} {t = k} _ _ b) w t =
      ⊎_elim (λ y. or_left (truth w f) (truth w k) y) (λ y. or_right (truth w f) (truth w k) (gives-rest b w y)) (or_cases (truth w f) (truth w g) t)
  gives-rest (on_left {f = f} g {r = r} _ _ a) w t =
      ⊎_elim (λ y. or_left (truth w r) (truth w g) (gives-rest a w y)) (λ y. or_right (truth w r) (truth w g) y) (or_cases (truth w f) (truth w g) t)

  -- of two sides, the one without the predicate is false where the condition is true
  other_side : (w : World) (f g c : Form) (d : ℕ → ℕ) → StandNowhere xs f → AgreeOff xs d w.element → (truth w f || truth w g) ≡ true
      → (truth (at w d) (nnf true f) && truth (at w d) c) ≡ true → (truth w g ≡ true) × (truth (at w d) c ≡ true)
  other_side w f g c d u o t h =
      let k = and_parts (truth (at w d) (nnf true f)) (truth (at w d) c) h in
      let m : truth w f ≡ false = sym (truth-off w xs d f u o) ∙ not_beside (at w d) f k.0 in
      (⊎_elim (λ y. absurd (both_ways (truth w f) m y)) (λ y. y) (or_cases (truth w f) (truth w g) t), k.1)

  swapped : (b c : Bool) → (b || c) ≡ true → (c || b) ≡ true
  swapped b c h = ⊎_elim (λ y. or_right c b y) (λ y. or_left c b y) (or_cases b c h)

  first-nowhere : (f g : Form) → ((n : ℕ) → is_among xs n ≡ true → (mentions n f || mentions n g) ≡ false) → StandNowhere xs f
  first-nowhere f g u n p = or_none_first (mentions n f) (mentions n g) (u n p)

  second-nowhere : (f g : Form) → ((n : ℕ) → is_among xs n ≡ true → (mentions n f || mentions n g) ≡ false) → StandNowhere xs g
  second-nowhere f g u n p = or_none_second (mentions n f) (mentions n g) (u n p)

  -- a binder's variable is no parameter
  not_bound : (x : ℕ) (f : Form) → ((n : ℕ) → is_among xs n ≡ true → (eqb n x || mentions n f) ≡ false) → is_among xs x ≡ true → ⊥
  not_bound x f u p = eqb-false x x (or_none_first (eqb x x) (mentions x f) (u x p)) refl

  pub gives : {f c r : Form} → IsGuard s q xs f c r → StandNowhere xs f → (w : World) → truth w f ≡ true
      → (d : ℕ → ℕ) → AgreeOff xs d w.element → truth (at w d) c ≡ true → holds w q (elements_of d xs) ≡ s
  unfolding boxes
  gives (lacking _) u w t d o h = no_false h
  gives (literally ts) u w t d o h =
      ap (holds w q) (equations-true (at w d) xs ts h ∙ values-off w xs d ts (λ n p. sym (literal-mentions n s q ts) ∙ u n p) o) ∙ literal-says w s q ts t
  gives (conjoined {f = f} {g = g} {c = c} {d = k} _ a b) u w t d o h =
      let ts = and_parts (truth w f) (truth w g) t in
      ⊎_elim (λ y. gives a (first-nowhere f g u) w ts.0 d o y) (λ y. gives b (second-nowhere f g u) w ts.1 d o y)
      (or_cases (truth (at w d) c) (truth (at w d) k) h)
  gives (quantified {x = x} {f = f} {c = c} _ a) u w t d o h =
      let r = found (w.size x.sort) (λ v. truth (with_var (at w d) x.num v) c) h in
      sym (ap (holds w q) (same-elements xs d x.num r.at (not_bound x.num f u))) ∙ sym (holds-at w (changed w.element x.num r.at) q (elements_of (changed d x.num r.at) xs))
      ∙ gives a (λ n p. or_none_second (eqb n x.num) (mentions n f) (u n p)) (with_var w x.num r.at)
      (every-at (w.size x.sort) (λ v. truth (with_var w x.num v) f) t r.at r.below) (changed d x.num r.at) (off-var xs x.num r.at d w.element o) r.passes
  gives (on_right f {g = g} {d = k} _ _ b) u w t d o h =
      let p = other_side w f g k d (first-nowhere f g u) o t h in gives b (second-nowhere f g u) w p.0 d o p.1
  gives (on_left {f = f} g {c = c} _ _ a) u w t d o h =
      let p = other_side w g f c d (second-nowhere f g u) o (swapped (truth w f) (truth w g) t) h in gives a (first-nowhere f g u) w p.0 d o p.1

  -- ---- and back

  module _ (distinct : AreDistinct xs) where
    takes-literal : (w : World) (e : Sorting) (ts : Terms) → Fits w e → sorted e (literal s q ts) ≡ true → pred_sorts e q ≡ Some (sorts_of xs)
        → StandNowhere xs (literal s q ts) → CoversAt w s q xs (equations xs ts) → holds w q (values w ts) ≡ s
    takes-literal w e ts k o i u c =
        let there : InRange (map w.size (sorts_of xs)) (values w ts) =
        values-in w e ts (sorts_of xs) k (subst (λ p. with_sorts (λ r. sorted_terms e ts r) p ≡ true) i (sym (literal-sorted e s q ts) ∙ o)) in
        let d : ℕ → ℕ = with_args w.element xs (values w ts) in
        let back : elements_of d xs ≡ values w ts = elements-with w.size w.element xs (values w ts) distinct there in
        let off : AgreeOff xs d w.element = off-with w.element xs (values w ts) in
        ap (holds w q) (sym back)
        ∙ c d off (subst (InRange (map w.size (sorts_of xs))) (sym back) there)
        (equations-hold (at w d) xs ts (back ∙ sym (values-off w xs d ts (λ n p. sym (literal-mentions n s q ts) ∙ u n p) off)))

    -- of two sides, where the one without the predicate is false the condition is that of the other
    covers-side : (w : World) (f c : Form) → StandNowhere xs f → truth w f ≡ false
        → ((d : ℕ → ℕ) → AgreeOff xs d w.element → InRange (map w.size (sorts_of xs)) (elements_of d xs) → (truth (at w d) (nnf true f) && truth (at w d) c) ≡ true → holds w q (elements_of d xs) ≡ s)
        → CoversAt w s q xs c
    covers-side w f c u m h d off r y =
        h d off r (and_from (truth (at w d) (nnf true f)) (truth (at w d) c) (truth-nnf true (at w d) f ∙ ap not (truth-off w xs d f u off ∙ m)) y)

    takes-side : (w : World) (f g t : Form) → (truth w f || truth w t) ≡ true → (truth w f ≡ false → truth w t ≡ true → truth w g ≡ true) → (truth w f || truth w g) ≡ true
    takes-side w f g t h k = ⊎_elim
        (λ y. or_left (truth w f) (truth w g) y)
        (λ m. ⊎_elim (λ y. or_left (truth w f) (truth w g) y) (λ y. or_right (truth w f) (truth w g) (k m y)) (or_cases (truth w f) (truth w t) h))
        (cases_Bool (truth w f))

    -- below a binder
    covers-var : (w : World) (x : Var) (a : ℕ) (c : Form) → a < w.size x.sort → (is_among xs x.num ≡ true → ⊥) → CoversAt w s q xs (Ex x c) → CoversAt (with_var w x.num a) s q xs c
    unfolding boxes
    covers-var w x a c l new h d off r t =
        let e : ℕ → ℕ = changed d x.num (w.element x.num) in
        let same : elements_of e xs ≡ elements_of d xs = same-elements xs d x.num (w.element x.num) new in
        let here : d x.num ≡ a = off x.num (not_new (is_among xs x.num) new) ∙ changed-at w.element x.num a in
        let back : changed e x.num a ≡ d = changed-again d x.num (w.element x.num) a ∙ ap (changed d x.num) (sym here) ∙ changed-same d x.num in
        holds-at w (changed w.element x.num a) q (elements_of d xs) ∙ sym (ap (holds w q) same)
        ∙ h e (λ n p. off_at n p) (subst (InRange (map w.size (sorts_of xs))) (sym same) r)
        (finds (w.size x.sort) (λ b. truth (with_var (at w e) x.num b) c) a l (ap (λ d. truth (at w d) c) back ∙ t))
      where
        not_new : (b : Bool) → (b ≡ true → ⊥) → not b ≡ true
        not_new true h = absurd (h refl)
        not_new false h = refl

        off_at : (n : ℕ) → not (is_among xs n) ≡ true → changed d x.num (w.element x.num) n ≡ w.element n
        off_at n p = ⊎_elim
            (λ y. ap (λ b. cond b (w.element x.num) (d n)) y ∙ ap w.element (sym (eqb-true n x.num y)))
            (λ y. changed-off d x.num n (w.element x.num) y ∙ off n p ∙ changed-off w.element x.num n a y)
            (cases_Bool (eqb n x.num))

    pub takes : {f c r : Form} → IsGuard s q xs f c r → StandNowhere xs f → (w : World) (e : Sorting) → Fits w e → sorted e f ≡ true → pred_sorts e q ≡ Some (sorts_of xs)
        → truth w r ≡ true → CoversAt w s q xs c → truth w f ≡ true
    unfolding boxes
    takes (lacking _) u w e k o i t h = t
    takes (literally ts) u w e k o i t h = literal-said w s q ts (takes-literal w e ts k o i u h)
    takes (conjoined {f = f} {g = g} {c = c} {d = m} {r = r} {t = p} _ a b) u w e k o i t h =
        let ts = and_parts (truth w r) (truth w p) t in
        let os = and_parts (sorted e f) (sorted e g) o in
        and_from (truth w f) (truth w g)
        (takes a (first-nowhere f g u) w e k os.0 i ts.0 (λ d off l y. h d off l (or_left (truth (at w d) c) (truth (at w d) m) y)))
        (takes b (second-nowhere f g u) w e k os.1 i ts.1 (λ d off l y. h d off l (or_right (truth (at w d) c) (truth (at w d) m) y)))
    takes (quantified {x = x} {f = f} {c = c} {r = r} _ a) u w e k o i t h =
        every-from (w.size x.sort) (λ v. truth (with_var w x.num v) f)
        (λ v l. takes a (λ n p. or_none_second (eqb n x.num) (mentions n f) (u n p)) (with_var w x.num v) (over_var e x.num x.sort) (fits-var w e x.num x.sort v l k) o
        (pred_sorts-over_var e q x.num x.sort ∙ i) (every-at (w.size x.sort) (λ v. truth (with_var w x.num v) r) t v l) (covers-var w x v c l (not_bound x.num f u) h))
    takes (on_right f {g = g} {d = m} {t = p} _ _ b) u w e k o i t h =
        takes-side w f g p t (λ z y. takes b (second-nowhere f g u) w e k (and_parts (sorted e f) (sorted e g) o).1 i y (covers-side w f m (first-nowhere f g u) z h))
    takes (on_left {f = f} g {c = c} {r = r} _ _ a) u w e k o i t h =
        swapped (truth w g) (truth w f)
        (takes-side w g f r (swapped (truth w r) (truth w g) t)
        (λ z y. takes a (first-nowhere f g u) w e k (and_parts (sorted e f) (sorted e g) o).0 i y (covers-side w g c (second-nowhere f g u) z h)))

pub says-parts : (s : Bool) (q : Pred) (xs : List Var) (f c r : Form) → IsGuard s q xs f c r → AreDistinct xs → StandNowhere xs f
    → (e : Sorting) → sorted e f ≡ true → pred_sorts e q ≡ Some (sorts_of xs)
    → (w : World) → Fits w e → (truth w f ≡ true) ↔ ((truth w r ≡ true) × CoversAt w s q xs c)
says-parts s q xs f c r g d u e o i w k =
    ((λ t. (gives-rest s q xs g w t, λ d off _ h. gives s q xs g u w t d off h)), (λ t. takes s q xs d g u w e k o i t.0 t.1))
