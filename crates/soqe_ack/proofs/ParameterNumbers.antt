-- The numbers of the parameters: distinct, of nothing that stands in the case, and determined.
use Rattle.std.proofs.Common.{◌≡◌, ℕ, suc, Bool, true, false, cond, eqb, not, ◌||◌, map, List, [], ◌∷◌, length, refl, sym, ◌∙◌, ap, subst, arith, ⊎_elim}
use Rattle.std.specs.List.{list_any}
use Rattle.std.proofs.lemmas.Bool.{eqb-true, not-true, both_ways, or_cases, cases_Bool, not_from_false}
use Rattle.soqe_term.specs.declared.term.Var.{Var}
use Rattle.soqe_number.specs.Ranges.{InRange}
use Rattle.soqe_number.specs.Unused.{member}
use Rattle.soqe_number.proofs.Choices.{or_none_first, or_none_second, bool_cases}
use Rattle.soqe_term.proofs.Worlds.{eqb-self, changed-off, changed-at}
use Rattle.soqe_form.specs.declared.form.Form.{Form}
use Rattle.soqe_form.specs.FreeVars.{is_among}
use Rattle.soqe_form.specs.Mentions.{mentions}
use Rattle.soqe_norm.proofs.Choosing.{one-least}
use Rattle.soqe_psub.specs.PredSubstLaws.{with_args}
use Rattle.soqe_ack.specs.Acked.{is_used, AreParameters}
use Rattle.soqe_ack.specs.GuardLaws.{AgreeOff, elements_of, sorts_of, StandNowhere, AreDistinct}
use Rattle.soqe_ack.proofs.Parameters.{same-elements}

-- no parameter stands in any of the formulas
abbrev pub StandInNone : List Var → List Form → Type 0
StandInNone xs [] = Unit {0}
StandInNone xs (f ∷ fs) = StandNowhere xs f × StandInNone xs fs

pub parameters-sorts : (used : ℕ → Bool) (sorts : List ℕ) (xs : List Var) → AreParameters used sorts xs → sorts_of xs ≡ sorts
parameters-sorts used [] [] h = refl
parameters-sorts used [] (x ∷ xs) h = absurd h
parameters-sorts used (s ∷ sorts) [] h = absurd h
parameters-sorts used (s ∷ sorts) (x ∷ xs) h = λ i. h.0 i ∷ parameters-sorts (λ n. eqb n x.num || used n) sorts xs h.2 i

pub parameters-unused : (used : ℕ → Bool) (sorts : List ℕ) (xs : List Var) → AreParameters used sorts xs → (n : ℕ) → is_among xs n ≡ true → used n ≡ false
parameters-unused used [] [] h n p = absurd (both_ways false refl p)
parameters-unused used [] (x ∷ xs) h n p = absurd h
parameters-unused used (s ∷ sorts) [] h n p = absurd h
parameters-unused used (s ∷ sorts) (x ∷ xs) h n p = ⊎_elim
    (λ y. ap used (eqb-true n x.num y) ∙ not-true (used x.num) h.1.passes)
    (λ y. or_none_second (eqb n x.num) (used n) (parameters-unused (λ n. eqb n x.num || used n) sorts xs h.2 n y))
    (or_cases (eqb n x.num) (is_among xs n) p)

pub parameters-distinct : (used : ℕ → Bool) (sorts : List ℕ) (xs : List Var) → AreParameters used sorts xs → AreDistinct xs
parameters-distinct used [] [] h = tt
parameters-distinct used [] (x ∷ xs) h = absurd h
parameters-distinct used (s ∷ sorts) [] h = absurd h
parameters-distinct used (s ∷ sorts) (x ∷ xs) h = (
  bool_cases (λ b. b ≡ false) (is_among xs x.num)
      (λ y. absurd (both_ways (eqb x.num x.num) (or_none_first (eqb x.num x.num) (used x.num) (parameters-unused (λ n. eqb n x.num || used n) sorts xs h.2 x.num y)) (eqb-self x.num)))
      (λ y. refl),
  parameters-distinct (λ n. eqb n x.num || used n) sorts xs h.2,
)

-- parameters are determined by their sorts and the numbers that are used
pub one-parameters : (used : ℕ → Bool) (sorts : List ℕ) (xs ys : List Var) → AreParameters used sorts xs → AreParameters used sorts ys → xs ≡ ys
one-parameters used [] [] [] h k = refl
one-parameters used [] [] (y ∷ ys) h k = absurd k
one-parameters used [] (x ∷ xs) ys h k = absurd h
one-parameters used (s ∷ sorts) [] ys h k = absurd h
one-parameters used (s ∷ sorts) (x ∷ xs) [] h k = absurd k
one-parameters used (s ∷ sorts) (x ∷ xs) (y ∷ ys) h k =
    let n : x.num ≡ y.num = one-least (λ m. not (used m)) x.num y.num h.1 k.1 in
    let t : x.sort ≡ y.sort = h.0 ∙ sym k.0 in
    let more : xs ≡ ys = one-parameters (λ m. eqb m x.num || used m) sorts xs ys h.2 (subst (λ a. AreParameters (λ m. eqb m a || used m) sorts ys) (sym n) k.2) in
    λ i. record { num = n i; sort = t i } ∷ more i

nowhere : (xs : List Var) (fs : List Form) → ((n : ℕ) → is_among xs n ≡ true → list_any (λ f. mentions n f) fs ≡ false) → StandInNone xs fs
nowhere xs [] h = tt
nowhere xs (f ∷ fs) h = (
  λ n p. or_none_first (mentions n f) (list_any (λ f. mentions n f) fs) (h n p),
  nowhere xs fs (λ n p. or_none_second (mentions n f) (list_any (λ f. mentions n f) fs) (h n p)),
)

pub parameters-nowhere : (keep : List ℕ) (vars : List Var) (fs : List Form) (sorts : List ℕ) (xs : List Var) → AreParameters (is_used keep vars fs) sorts xs → StandInNone xs fs
parameters-nowhere keep vars fs sorts xs h = nowhere xs fs (λ n p.
    or_none_second (is_among vars n) (list_any (λ f. mentions n f) fs)
    (or_none_second (member n keep) (is_among vars n || list_any (λ f. mentions n f) fs) (parameters-unused (is_used keep vars fs) sorts xs h n p)))

-- ---- elements

pub length-elements : (d : ℕ → ℕ) (xs : List Var) → length (elements_of d xs) ≡ length xs
length-elements d [] = refl
length-elements d (x ∷ xs) = ap suc (length-elements d xs)

pub length-in : (size : ℕ → ℕ) (xs : List Var) (args : List ℕ) → InRange (map size (sorts_of xs)) args → length args ≡ length xs
length-in size [] [] r = refl
length-in size [] (a ∷ more) r = absurd r
length-in size (x ∷ xs) [] r = absurd r
length-in size (x ∷ xs) (a ∷ more) r = ap suc (length-in size xs more r.1)

pub elements-back : (e : ℕ → ℕ) (xs : List Var) (args : List ℕ) → AreDistinct xs → length args ≡ length xs → elements_of (with_args e xs args) xs ≡ args
elements-back e [] [] t r = refl
elements-back e [] (a ∷ more) t r = absurd (omega arith)
elements-back e (x ∷ xs) [] t r = absurd (omega arith)
elements-back e (x ∷ xs) (a ∷ more) t r =
    λ i. changed-at (with_args e xs more) x.num a i
    ∷ (same-elements xs (with_args e xs more) x.num a (both_ways (is_among xs x.num) t.0) ∙ elements-back e xs more t.1 (omega arith)) i

-- with their own elements the parameters are as they were
pub with-own : (e d : ℕ → ℕ) (xs : List Var) → AgreeOff xs d e → (n : ℕ) → with_args e xs (elements_of d xs) n ≡ d n
with-own e d xs off n = own xs (λ h. sym (off n (not_from_false (is_among xs n) h)))
  where
    own : (ys : List Var) → (is_among ys n ≡ false → e n ≡ d n) → with_args e ys (elements_of d ys) n ≡ d n
    own [] h = h refl
    own (y ∷ ys) h = ⊎_elim
        (λ q. ap (λ b. cond b (d y.num) (with_args e ys (elements_of d ys) n)) q ∙ ap d (sym (eqb-true n y.num q)))
        (λ q. changed-off (with_args e ys (elements_of d ys)) y.num n (d y.num) q ∙ own ys (λ p. h (ap (λ b. b || is_among ys n) q ∙ p)))
        (cases_Bool (eqb n y.num))
