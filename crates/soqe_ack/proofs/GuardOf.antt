-- The parts of a guard as a function: a formula has at most one condition and rest, and whether it has them is decided.
use Rattle.std.proofs.Common.{◌≡◌, Bool, true, false, cond, ◌||◌, List, Option, Some, None, refl, sym, ◌∙◌, ap, subst, ◌⊎◌, inl, inr}
use Rattle.soqe_term.specs.declared.term.Var.{Var}
use Rattle.soqe_term.specs.declared.term.Terms.{Terms}
use Rattle.soqe_form.specs.declared.form.Pred.{Pred}
use Rattle.soqe_form.specs.declared.form.Form.{Form, True, False, Equal, Atom, Not, Not', And, And', Or, Or', Imp', Iff', All, All', Ex, Ex', All2', Ex2', end_of-Form as end, more_of-Form as one}
use Rattle.soqe_form.specs.Boxes.{boxes}
use Rattle.soqe_form.specs.FreePreds.{has_free}
use Rattle.soqe_form.proofs.FreePreds.{same_pred-self, same_pred-true}
use Rattle.soqe_norm.specs.Nnf.{nnf}
use Rattle.soqe_ack.specs.Guards.{literal, equations, IsGuard, lacking, literally, conjoined, quantified, on_right, on_left}
use Rattle.soqe_ack.specs.GuardLaws.{HasParts}
use Rattle.soqe_ack.proofs.Parameters.{no_false}

-- a condition and a rest, or none
abbrev pub Chosen : Type 0
Chosen = Option (Form × Form)

-- where the predicate is free, the parts; otherwise false and the formula
abbrev pub chosen : Bool → Form → Chosen → Chosen
chosen b f o = cond b o (Some (False, f))

abbrev pub both : Chosen → Chosen → Chosen
both (Some a) (Some b) = Some (Or a.0 b.0, And a.1 b.1)
both (Some a) None = None
both None o = None

abbrev pub for_all : Var → Chosen → Chosen
for_all x (Some a) = Some (Ex x a.0, All x a.1)
for_all x None = None

abbrev pub beside_left : Form → Chosen → Chosen
beside_left f (Some a) = Some (And (nnf true f) a.0, Or f a.1)
beside_left f None = None

abbrev pub beside_right : Form → Chosen → Chosen
beside_right g (Some a) = Some (And (nnf true g) a.0, Or a.1 g)
beside_right g None = None

abbrev pub one_side : Bool → Bool → Form → Form → Chosen → Chosen → Chosen
one_side true true f g o u = None
one_side true false f g o u = beside_right g o
one_side false b f g o u = beside_left f u

module _ (s : Bool) (q : Pred) (xs : List Var) where
  abbrev pub of_literal : Bool → Terms → Chosen
  of_literal b ts = cond b (Some (equations xs ts, True)) None

  abbrev pub of_negated : Form → Chosen
  of_negated (Atom p ts) = cond s None (Some (equations xs ts, True))
  of_negated _ = None

  -- the parts of a formula in which the predicate is free
  abbrev pub parts : Form → Chosen
  parts True = None
  parts False = None
  parts (Equal a b) = None
  parts (Atom p ts) = of_literal s ts
  parts (Not' _ (one f end)) = of_negated f
  parts (And' _ (one f end) _ (one g end)) = both (chosen (has_free q f) f (parts f)) (chosen (has_free q g) g (parts g))
  parts (Or' _ (one f end) _ (one g end)) = one_side (has_free q f) (has_free q g) f g (parts f) (parts g)
  parts (Imp' _ (one f end) _ (one g end)) = None
  parts (Iff' _ (one f end) _ (one g end)) = None
  parts (All' x _ (one f end)) = for_all x (parts f)
  parts (Ex' x _ (one f end)) = None
  parts (All2' p _ (one f end)) = None
  parts (Ex2' p _ (one f end)) = None

  abbrev pub guard_of : Form → Chosen
  guard_of f = chosen (has_free q f) f (parts f)

  -- ---- a guard has the parts of the function

  pub from_chosen : (f : Form) (o a : Chosen) → has_free q f ≡ true → chosen (has_free q f) f o ≡ a → o ≡ a
  from_chosen f o a h e = sym (ap (λ b. chosen b f o) h) ∙ e

  literal-reaches : (ts : Terms) (b : Bool) → s ≡ b → guard_of (literal s q ts) ≡ Some (equations xs ts, True)
  unfolding boxes
  literal-reaches ts true e = ap (λ b. guard_of (literal b q ts)) e ∙ ap (λ b. chosen b (Atom q ts) (of_literal s ts)) (same_pred-self q) ∙ ap (λ b. of_literal b ts) e
  literal-reaches ts false e = ap (λ b. guard_of (literal b q ts)) e ∙ ap (λ b. chosen b (Not (Atom q ts)) (of_negated (Atom q ts))) (same_pred-self q) ∙ ap (λ b. cond b None (Some (equations xs ts, True))) e

  pub reaches : {f c r : Form} → IsGuard s q xs f c r → guard_of f ≡ Some (c, r)
  unfolding boxes
  reaches (lacking {f = f} h) = ap (λ b. chosen b f (parts f)) h
  reaches (literally ts) = literal-reaches ts s refl
  reaches (conjoined {f = f} {g = g} h a b) =
      ap (λ b. chosen b (And f g) (parts (And f g))) h ∙ (λ i. both (reaches a i) (reaches b i))
  reaches (quantified {x = x} {f = f} {c = c} {r = r} h a) =
      ap (λ b. chosen b (All x f) (for_all x (parts f))) h ∙ ap (for_all x) (from_chosen f (parts f) (Some (c, r)) h (reaches a))
  reaches (on_right f {g = g} {d = d} {t = t} h k b) =
      (λ i. chosen (h i || k i) (Or f g) (one_side (h i) (has_free q g) f g (parts f) (parts g)))
      ∙ ap (beside_left f) (from_chosen g (parts g) (Some (d, t)) k (reaches b))
  reaches (on_left {f = f} g {c = c} {r = r} h k a) =
      (λ i. chosen (h i || k i) (Or f g) (one_side (h i) (k i) f g (parts f) (parts g)))
      ∙ ap (beside_right g) (from_chosen f (parts f) (Some (c, r)) h (reaches a))

  pub unique : {f c r d t : Form} → IsGuard s q xs f c r → IsGuard s q xs f d t → (c ≡ d) × (r ≡ t)
  unique {c = c} {r = r} {d = d} {t = t} a b =
      let e : Some (c, r) ≡ Some (d, t) = sym (reaches a) ∙ reaches b in (ap first e, ap second e)
    where
      first : Chosen → Form
      first (Some a) = a.0
      first None = True

      second : Chosen → Form
      second (Some a) = a.1
      second None = True

  -- ---- what the function finds are the parts of a guard

  abbrev pub Right : Form → Chosen → Type 0
  Right f (Some a) = IsGuard s q xs f a.0 a.1
  Right f None = Unit {0}

  whole-right : (f : Form) (b : Bool) → has_free q f ≡ b → (b ≡ true → Right f (parts f)) → Right f (chosen b f (parts f))
  whole-right f true h k = k refl
  whole-right f false h k = lacking h

  both-right : (f g : Form) (o u : Chosen) → (has_free q f || has_free q g) ≡ true → Right f o → Right g u → Right (And f g) (both o u)
  both-right f g (Some a) (Some b) h i j = conjoined h i j
  both-right f g (Some a) None h i j = tt
  both-right f g None u h i j = tt

  all-right : (x : Var) (f : Form) (o : Chosen) → has_free q f ≡ true → Right f o → Right (All x f) (for_all x o)
  all-right x f (Some a) h i = quantified h i
  all-right x f None h i = tt

  side-right : (f g : Form) (b c : Bool) (o u : Chosen) → has_free q f ≡ b → has_free q g ≡ c → (b || c) ≡ true → (b ≡ true → Right f o) → (c ≡ true → Right g u) → Right (Or f g) (one_side b c f g o u)
  side-right f g true true o u h k n i j = tt
  side-right f g true false (Some a) u h k n i j = on_left g h k (i refl)
  side-right f g true false None u h k n i j = tt
  side-right f g false true o (Some a) h k n i j = on_right f h k (j refl)
  side-right f g false true o None h k n i j = tt
  side-right f g false false o u h k n i j = no_false n

  atom-right : (b : Bool) (p : Pred) (ts : Terms) → s ≡ b → q ≡ p → Right (Atom p ts) (of_literal b ts)
  unfolding boxes
  atom-right true p ts e h = subst (λ f. IsGuard s q xs f (equations xs ts) True) (ap (λ b. literal b q ts) e ∙ ap (λ p. Atom p ts) h) (literally ts)
  atom-right false p ts e h = tt

  negated-right : (b : Bool) (p : Pred) (ts : Terms) → s ≡ b → q ≡ p → Right (Not (Atom p ts)) (cond b None (Some (equations xs ts, True)))
  unfolding boxes
  negated-right true p ts e h = tt
  negated-right false p ts e h = subst (λ f. IsGuard s q xs f (equations xs ts) True) (ap (λ b. literal b q ts) e ∙ ap (λ p. Not (Atom p ts)) h) (literally ts)

  not-right : (f : Form) → has_free q f ≡ true → Right (Not f) (of_negated f)
  unfolding boxes
  not-right True h = tt
  not-right False h = tt
  not-right (Equal a b) h = tt
  not-right (Atom p ts) h = negated-right s p ts refl (same_pred-true q p h)
  not-right (Not' _ (one f end)) h = tt
  not-right (And' _ (one f end) _ (one g end)) h = tt
  not-right (Or' _ (one f end) _ (one g end)) h = tt
  not-right (Imp' _ (one f end) _ (one g end)) h = tt
  not-right (Iff' _ (one f end) _ (one g end)) h = tt
  not-right (All' x _ (one f end)) h = tt
  not-right (Ex' x _ (one f end)) h = tt
  not-right (All2' p _ (one f end)) h = tt
  not-right (Ex2' p _ (one f end)) h = tt

  pub parts-right : (f : Form) → has_free q f ≡ true → Right f (parts f)
  unfolding boxes
  parts-right True h = tt
  parts-right False h = tt
  parts-right (Equal a b) h = tt
  parts-right (Atom p ts) h = atom-right s p ts refl (same_pred-true q p h)
  parts-right (Not' _ (one f end)) h = not-right f h
  parts-right (And' _ (one f end) _ (one g end)) h =
      both-right f g (chosen (has_free q f) f (parts f)) (chosen (has_free q g) g (parts g)) h
      (whole-right f (has_free q f) refl (parts-right f)) (whole-right g (has_free q g) refl (parts-right g))
  parts-right (Or' _ (one f end) _ (one g end)) h =
      side-right f g (has_free q f) (has_free q g) (parts f) (parts g) refl refl h (parts-right f) (parts-right g)
  parts-right (Imp' _ (one f end) _ (one g end)) h = tt
  parts-right (Iff' _ (one f end) _ (one g end)) h = tt
  parts-right (All' x _ (one f end)) h = all-right x f (parts f) h (parts-right f h)
  parts-right (Ex' x _ (one f end)) h = tt
  parts-right (All2' p _ (one f end)) h = tt
  parts-right (Ex2' p _ (one f end)) h = tt

  pub decided : (f : Form) → HasParts s q xs f ⊎ ((c r : Form) → IsGuard s q xs f c r → ⊥)
  decided f = decide (guard_of f) refl (whole-right f (has_free q f) refl (parts-right f))
    where
      none : (a : Form × Form) → None ≡ Some a → ⊥
      none a e = cc

      decide : (o : Chosen) → guard_of f ≡ o → Right f o → HasParts s q xs f ⊎ ((c r : Form) → IsGuard s q xs f c r → ⊥)
      decide (Some a) e k = inl (record { condition = a.0; rest = a.1; is = k })
      decide None e k = inr (λ c r g. none (c, r) (sym e ∙ reaches g))
