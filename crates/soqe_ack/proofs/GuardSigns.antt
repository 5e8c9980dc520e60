-- Signs of guards: a formula without the predicate has none, and a guard with the predicate has the sign. And the parameters
-- are free to choose.
use Rattle.std.proofs.Common.{◌≡◌, ℕ, Bool, true, false, cond, not, ◌||◌, ◌&&◌, List, refl, ⊎_elim}
use Rattle.std.proofs.lemmas.Bool.{or_from, or_cases, or_left, or_right, both_ways}
use Rattle.soqe_term.specs.declared.term.Var.{Var}
use Rattle.soqe_term.specs.declared.term.Terms.{Terms}
use Rattle.soqe_number.proofs.Choices.{or_none_first, or_none_second}
use Rattle.soqe_form.specs.declared.form.Pred.{Pred}
use Rattle.soqe_form.specs.declared.form.Form.{Form, True, False, Equal, Atom, Not', And, And', Or, Or', Imp', Iff', All, All', Ex, Ex', All2', Ex2', end_of-Form as end, more_of-Form as one}
use Rattle.soqe_form.specs.Boxes.{boxes}
use Rattle.soqe_form.specs.FreePreds.{same_pred, hides, has_free}
use Rattle.soqe_form.proofs.FreePreds.{same_pred-self}
use Rattle.soqe_norm.specs.Nnf.{nnf}
use Rattle.soqe_norm.specs.Rises.{has_sign}
use Rattle.soqe_ack.specs.GuardLaws.{HasParts}
use Rattle.soqe_ack.specs.Guards.{literal, equations, IsGuard, lacking, literally, conjoined, quantified, on_right, on_left}

and_false : (s a : Bool) → a ≡ false → (s && a) ≡ false
and_false true a h = h
and_false false a h = refl

hidden-lacks : (o a b : Bool) → (a ≡ false → b ≡ false) → cond o false a ≡ false → cond o false b ≡ false
hidden-lacks true a b k h = refl
hidden-lacks false a b k h = k h

module _ (q : Pred) where
  below : (n : ℕ) (s : Bool) (f : Form) → (has_free q f ≡ false → has_sign s q f ≡ false) → cond (hides n q) false (has_free q f) ≡ false
      → cond (hides n q) false (has_sign s q f) ≡ false
  below n s f k h = hidden-lacks (hides n q) (has_free q f) (has_sign s q f) k h

  -- a formula without the predicate has no sign
  pub no_sign : (f : Form) → has_free q f ≡ false → (s : Bool) → has_sign s q f ≡ false
  unfolding boxes
  no_sign True h s = refl
  no_sign False h s = refl
  no_sign (Equal a b) h s = refl
  no_sign (Atom p ts) h s = and_false s (same_pred q p) h
  no_sign (Not' _ (one f end)) h s = no_sign f h (not s)
  no_sign (And' _ (one f end) _ (one g end)) h s =
      or_from (has_sign s q f) (has_sign s q g) (no_sign f (or_none_first (has_free q f) (has_free q g) h) s) (no_sign g (or_none_second (has_free q f) (has_free q g) h) s)
  no_sign (Or' _ (one f end) _ (one g end)) h s =
      or_from (has_sign s q f) (has_sign s q g) (no_sign f (or_none_first (has_free q f) (has_free q g) h) s) (no_sign g (or_none_second (has_free q f) (has_free q g) h) s)
  no_sign (Imp' _ (one f end) _ (one g end)) h s =
      or_from (has_sign (not s) q f) (has_sign s q g) (no_sign f (or_none_first (has_free q f) (has_free q g) h) (not s)) (no_sign g (or_none_second (has_free q f) (has_free q g) h) s)
  no_sign (Iff' _ (one f end) _ (one g end)) h s =
      let a : has_free q f ≡ false = or_none_first (has_free q f) (has_free q g) h in
      let b : has_free q g ≡ false = or_none_second (has_free q f) (has_free q g) h in
      or_from (has_sign true q f || has_sign false q f) (has_sign true q g || has_sign false q g)
      (or_from (has_sign true q f) (has_sign false q f) (no_sign f a true) (no_sign f a false))
      (or_from (has_sign true q g) (has_sign false q g) (no_sign g b true) (no_sign g b false))
  no_sign (All' x _ (one f end)) h s = no_sign f h s
  no_sign (Ex' x _ (one f end)) h s = no_sign f h s
  no_sign (All2' p _ (one f end)) h s = below p.num s f (λ n. no_sign f n s) h
  no_sign (Ex2' p _ (one f end)) h s = below p.num s f (λ n. no_sign f n s) h

literal-sign : (s : Bool) (q : Pred) (ts : Terms) → has_sign s q (literal s q ts) ≡ true
unfolding boxes
literal-sign true q ts = same_pred-self q
literal-sign false q ts = same_pred-self q

module _ (s : Bool) (q : Pred) (xs : List Var) where
  -- a guard with the predicate has the sign
  pub guard-sign : {f c r : Form} → IsGuard s q xs f c r → has_free q f ≡ true → has_sign s q f ≡ true
  unfolding boxes
  guard-sign (lacking {f = f} h) e = absurd (both_ways (has_free q f) h e)
  guard-sign (literally ts) e = literal-sign s q ts
  guard-sign (conjoined {f = f} {g = g} h a b) e = ⊎_elim
      (λ i. or_left (has_sign s q f) (has_sign s q g) (guard-sign a i)) (λ i. or_right (has_sign s q f) (has_sign s q g) (guard-sign b i))
      (or_cases (has_free q f) (has_free q g) h)
  guard-sign (quantified h a) e = guard-sign a h
  guard-sign (on_right f {g = g} h k b) e = or_right (has_sign s q f) (has_sign s q g) (guard-sign b k)
  guard-sign (on_left {f = f} g h k a) e = or_left (has_sign s q f) (has_sign s q g) (guard-sign a h)

  -- a guard is one with any parameters
  pub any_parameters : (ys : List Var) {f c r : Form} → IsGuard s q xs f c r → HasParts s q ys f
  any_parameters ys (lacking {f = f} h) = record { condition = False; rest = f; is = lacking h }
  any_parameters ys (literally ts) = record { condition = equations ys ts; rest = True; is = literally ts }
  any_parameters ys (conjoined h a b) =
      let i = any_parameters ys a in let j = any_parameters ys b in
      record { condition = Or i.condition j.condition; rest = And i.rest j.rest; is = conjoined h i.is j.is }
  any_parameters ys (quantified {x = x} h a) =
      let i = any_parameters ys a in record { condition = Ex x i.condition; rest = All x i.rest; is = quantified h i.is }
  any_parameters ys (on_right f h k b) =
      let j = any_parameters ys b in record { condition = And (nnf true f) j.condition; rest = Or f j.rest; is = on_right f h k j.is }
  any_parameters ys (on_left g h k a) =
      let i = any_parameters ys a in record { condition = And (nnf true g) i.condition; rest = Or i.rest g; is = on_left g h k i.is }
