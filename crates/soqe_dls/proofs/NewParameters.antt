-- Parameters with new numbers: each gets the least that is not used, and the old ones are bound to them.
use Rattle.std.proofs.Common.{◌≡◌, ℕ, zero, suc, ◌+◌, ◌<◌, Bool, true, false, cond, eqb, not, ◌||◌, ◌&&◌, List, [], ◌∷◌, ◌++◌, length, map, take, get_or, Option, Some, None, refl, sym, ◌∙◌, ap, arith}
use Rattle.std.proofs.lemmas.Bool.{both_ways, eqb-true, or_from, or_left, or_right}
use Rattle.std.proofs.lemmas.List.{take_more, map-append}
use Rattle.soqe_term.specs.declared.term.Var.{Var}
use Rattle.soqe_term.specs.declared.term.Term.{Var as var}
use Rattle.soqe_term.specs.Bindings.{bound_term}
use Rattle.soqe_number.specs.Unused.{member}
use Rattle.soqe_number.proofs.Choices.{bool_cases}
use Rattle.soqe_term.proofs.Worlds.{eqb-self}
use Rattle.soqe_form.specs.declared.form.Form.{Form}
use Rattle.soqe_form.specs.Free.{free}
use Rattle.soqe_form.specs.FreeVars.{is_among}
use Rattle.soqe_number.specs.Marks.{marked, Adds}
use Rattle.soqe_psub.specs.Replaces.{is_own}
use Rattle.soqe_ack.specs.Acked.{AreParameters}
use Rattle.soqe_ack.specs.GuardLaws.{AreDistinct}
use Rattle.soqe_dls.specs.ShownCases.{by_vars}

-- ---- which numbers are used

pub used-marks : (keep : List ℕ) (xs : List Var) (f : Form) (a b : List (ℕ × Bool)) → marked a ≡ is_own xs f
    → Adds (λ n. member n keep) a b → marked b ≡ (λ n. member n keep || (free n f && not (is_among xs n)))
used-marks keep xs f a b own kept = kept.is ∙ (λ i n. member n keep || own i n)

-- ---- new parameters

pub parameters-many : (u : ℕ → Bool) (sorts : List ℕ) (xs : List Var) → AreParameters u sorts xs → length xs ≡ length sorts
parameters-many u [] [] c = refl
parameters-many u [] (y ∷ xs) c = absurd c
parameters-many u (t ∷ sorts) [] c = absurd c
parameters-many u (t ∷ sorts) (y ∷ xs) c = ap suc (parameters-many (λ n. eqb n y.num || u n) sorts xs c.2)

pub sorts-more : (xs : List Var) (i : ℕ) (d : Var) → i < length xs → map (λ x. x.sort) (take i xs) ++ (get_or xs i d).sort ∷ [] ≡ map (λ x. x.sort) (take (i + 1) xs)
sorts-more xs i d l = sym (ap (map (λ x. x.sort)) (take_more xs i d l) ∙ map-append (λ x. x.sort) (take i xs) (get_or xs i d ∷ []))

-- ---- the binding

among-at : (xs : List Var) (i : ℕ) (d : Var) → i < length xs → is_among xs (get_or xs i d).num ≡ true
among-at [] i d l = absurd (omega (arith, l))
among-at (x ∷ xs) zero d l = or_left (eqb x.num x.num) (is_among xs x.num) (eqb-self x.num)
among-at (x ∷ xs) (suc i) d l = or_right (eqb (get_or xs i d).num x.num) (is_among xs (get_or xs i d).num) (let m : i < length xs = omega (arith, l) in among-at xs i d m)

-- of distinct variables, none is among those in front of it
pub distinct-front : (xs : List Var) (i : ℕ) (d : Var) → i < length xs → AreDistinct xs → is_among (take i xs) (get_or xs i d).num ≡ false
distinct-front [] i d l h = absurd (omega (arith, l))
distinct-front (x ∷ xs) zero d l h = refl
distinct-front (x ∷ xs) (suc i) d l h =
    let m : i < length xs = omega (arith, l) in
    let z : Var = get_or xs i d in
    or_from (eqb z.num x.num) (is_among (take i xs) z.num)
    (bool_cases (λ b. b ≡ false) (eqb z.num x.num) (λ y. absurd (both_ways (is_among xs x.num) h.0 (ap (is_among xs) (sym (eqb-true z.num x.num y)) ∙ among-at xs i d m))) (λ y. refl))
    (distinct-front xs i d m h.1)

pub by_vars-push : (xs ys : List Var) (x y : Var) → length xs ≡ length ys → by_vars (xs ++ x ∷ []) (ys ++ y ∷ []) ≡ by_vars xs ys ++ record { var = x; term = var y } ∷ []
by_vars-push [] [] x y l = refl
by_vars-push [] (b ∷ ys) x y l = cc
by_vars-push (a ∷ xs) [] x y l = cc
by_vars-push (a ∷ xs) (b ∷ ys) x y l = let m : length xs ≡ length ys = omega (arith, l) in ap (λ s. record { var = a; term = var b } ∷ s) (by_vars-push xs ys x y m)

cond-none : {A : Type 0} (b c : Bool) (t : A) (o : Option A) → (b || c) ≡ false → (c ≡ false → o ≡ None) → cond b (Some t) o ≡ None
cond-none true c t o h k = cc
cond-none false c t o h k = k h

-- a variable that is not among the first ones has no term
pub none-bound : (xs ys : List Var) (n : ℕ) → is_among xs n ≡ false → bound_term (by_vars xs ys) n ≡ None
none-bound [] ys n h = refl
none-bound (x ∷ xs) [] n h = refl
none-bound (x ∷ xs) (y ∷ ys) n h = cond-none (eqb n x.num) (is_among xs n) (var y) (bound_term (by_vars xs ys) n) h (none-bound xs ys n)
