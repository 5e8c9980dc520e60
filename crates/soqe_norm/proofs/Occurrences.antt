-- The test of one sign finds what the list of the signs of all atoms has.
use Rattle.std.proofs.Common.{◌≡◌, Bool, true, false, cond, ◌||◌, ◌&&◌, List, [], ◌∷◌, ◌++◌, refl, sym, ◌∙◌, ap}
use Rattle.std.specs.List.{list_any}
use Rattle.std.proofs.lemmas.List.Folds.{list_any-append}
use Rattle.soqe_form.specs.declared.form.Pred.{Pred}
use Rattle.soqe_form.specs.declared.form.Form.{Form, True, False, Equal, Atom, Not', And', Or', Imp', Iff', All', Ex', All2', Ex2', end_of-Form as end, more_of-Form as one}
use Rattle.soqe_form.specs.FreePreds.{same_pred, hides}
use Rattle.soqe_norm.specs.Signs.{Signs, turned, both, signs_under}
use Rattle.soqe_norm.specs.Valued.{occurs_pos, occurs_neg}
use Rattle.soqe_norm.specs.Rises.{has_sign}

-- an atom has the sign b where its formula has it and stands positive, or has the other and stands negative
abbrev pub reaches : Bool → Bool → Bool → Bool → Bool
reaches up down a c = (up && a) || (down && c)

swapped : (x y : Bool) → (x || y) ≡ (y || x)
swapped true true = refl
swapped true false = refl
swapped false true = refl
swapped false false = refl

middle : (a b c d : Bool) → ((a || c) || (b || d)) ≡ ((a || b) || (c || d))
middle true b c d = refl
middle false true true d = refl
middle false true false d = refl
middle false false c d = refl

none_after : (a : Bool) → a ≡ (a || false)
none_after true = refl
none_after false = refl

twice : (a : Bool) → a ≡ (a || a)
twice true = refl
twice false = refl

reaches-none : (up down : Bool) → false ≡ reaches up down false false
reaches-none true true = refl
reaches-none true false = refl
reaches-none false true = refl
reaches-none false false = refl

reaches-or : (up down a b c d : Bool) → (reaches up down a c || reaches up down b d) ≡ reaches up down (a || b) (c || d)
reaches-or true true a b c d = middle a b c d
reaches-or true false a b c d = (λ i. sym (none_after a) i || sym (none_after b) i) ∙ none_after (a || b)
reaches-or false true a b c d = refl
reaches-or false false a b c d = refl

-- below an equivalence both signs stand together
reaches-both : (up down a c : Bool) → reaches (up || down) (up || down) a c ≡ reaches up down (a || c) (a || c)
reaches-both true true a c = twice (a || c)
reaches-both true false a c = none_after (a || c)
reaches-both false true a c = refl
reaches-both false false a c = refl

reaches-atom : (up down same : Bool) (s : Signs) (test : Signs → Bool) → test s ≡ up → list_any test (cond same (s ∷ []) []) ≡ reaches up down (true && same) (false && same)
reaches-atom up down true s test e = ap (λ b. b || false) e ∙ shown up down
  where
    shown : (up down : Bool) → (up || false) ≡ reaches up down true false
    shown true down = refl
    shown false true = refl
    shown false false = refl
reaches-atom up down false s test e = reaches-none up down

reaches-hidden : (hidden up down a c : Bool) (signs : List Signs) (test : Signs → Bool) → list_any test signs ≡ reaches up down a c
    → list_any test (cond hidden [] signs) ≡ reaches up down (cond hidden false a) (cond hidden false c)
reaches-hidden true up down a c signs test h = reaches-none up down
reaches-hidden false up down a c signs test h = h

abbrev is_pos : Signs → Bool
is_pos s = s.pos

abbrev is_neg : Signs → Bool
is_neg s = s.neg

module _ (p : Pred) where
  -- with the two tests of the occurrence's place at once: what a negation does to one it does to the other
  abbrev pub Shown : Signs → Form → Type 0
  Shown s f = (list_any is_pos (signs_under s p f) ≡ reaches s.pos s.neg (has_sign true p f) (has_sign false p f))
      × (list_any is_neg (signs_under s p f) ≡ reaches s.neg s.pos (has_sign true p f) (has_sign false p f))

  two : (test : Signs → Bool) (xs ys : List Signs) (up down a b c d : Bool) → list_any test xs ≡ reaches up down a c → list_any test ys ≡ reaches up down b d
      → list_any test (xs ++ ys) ≡ reaches up down (a || b) (c || d)
  two test xs ys up down a b c d h k = list_any-append test xs ys ∙ (λ i. h i || k i) ∙ reaches-or up down a b c d

  turn : (up down a c : Bool) (r : Bool) → r ≡ reaches down up a c → r ≡ reaches up down c a
  turn up down a c r h = h ∙ swapped (down && a) (up && c)

  pub signs-shown : (s : Signs) (f : Form) → Shown s f
  signs-shown s True = (reaches-none s.pos s.neg, reaches-none s.neg s.pos)
  signs-shown s False = (reaches-none s.pos s.neg, reaches-none s.neg s.pos)
  signs-shown s (Equal t u) = (reaches-none s.pos s.neg, reaches-none s.neg s.pos)
  signs-shown s (Atom q ts) = (reaches-atom s.pos s.neg (same_pred p q) s is_pos refl, reaches-atom s.neg s.pos (same_pred p q) s is_neg refl)
  signs-shown s (Not' _ (one f end)) = let h = signs-shown (turned s) f in (
    turn s.pos s.neg (has_sign true p f) (has_sign false p f) (list_any is_pos (signs_under (turned s) p f)) h.0,
    turn s.neg s.pos (has_sign true p f) (has_sign false p f) (list_any is_neg (signs_under (turned s) p f)) h.1,
  )
  signs-shown s (And' _ (one f end) _ (one g end)) = let h = signs-shown s f in let k = signs-shown s g in (
    two is_pos (signs_under s p f) (signs_under s p g) s.pos s.neg (has_sign true p f) (has_sign true p g) (has_sign false p f) (has_sign false p g) h.0 k.0,
    two is_neg (signs_under s p f) (signs_under s p g) s.neg s.pos (has_sign true p f) (has_sign true p g) (has_sign false p f) (has_sign false p g) h.1 k.1,
  )
  signs-shown s (Or' _ (one f end) _ (one g end)) = let h = signs-shown s f in let k = signs-shown s g in (
    two is_pos (signs_under s p f) (signs_under s p g) s.pos s.neg (has_sign true p f) (has_sign true p g) (has_sign false p f) (has_sign false p g) h.0 k.0,
    two is_neg (signs_under s p f) (signs_under s p g) s.neg s.pos (has_sign true p f) (has_sign true p g) (has_sign false p f) (has_sign false p g) h.1 k.1,
  )
  signs-shown s (Imp' _ (one f end) _ (one g end)) = let h = signs-shown (turned s) f in let k = signs-shown s g in (
    two is_pos (signs_under (turned s) p f) (signs_under s p g) s.pos s.neg (has_sign false p f) (has_sign true p g) (has_sign true p f) (has_sign false p g)
        (turn s.pos s.neg (has_sign true p f) (has_sign false p f) (list_any is_pos (signs_under (turned s) p f)) h.0) k.0,
    two is_neg (signs_under (turned s) p f) (signs_under s p g) s.neg s.pos (has_sign false p f) (has_sign true p g) (has_sign true p f) (has_sign false p g)
        (turn s.neg s.pos (has_sign true p f) (has_sign false p f) (list_any is_neg (signs_under (turned s) p f)) h.1) k.1,
  )
  signs-shown s (Iff' _ (one f end) _ (one g end)) = let h = signs-shown (both s) f in let k = signs-shown (both s) g in
      let a : Bool = has_sign true p f || has_sign false p f in let b : Bool = has_sign true p g || has_sign false p g in (
        two is_pos (signs_under (both s) p f) (signs_under (both s) p g) s.pos s.neg a b a b
            (h.0 ∙ reaches-both s.pos s.neg (has_sign true p f) (has_sign false p f)) (k.0 ∙ reaches-both s.pos s.neg (has_sign true p g) (has_sign false p g)),
        two is_neg (signs_under (both s) p f) (signs_under (both s) p g) s.neg s.pos a b a b
            (h.1 ∙ (λ i. reaches (swapped s.pos s.neg i) (swapped s.pos s.neg i) (has_sign true p f) (has_sign false p f)) ∙ reaches-both s.neg s.pos (has_sign true p f) (has_sign false p f))
            (k.1 ∙ (λ i. reaches (swapped s.pos s.neg i) (swapped s.pos s.neg i) (has_sign true p g) (has_sign false p g)) ∙ reaches-both s.neg s.pos (has_sign true p g) (has_sign false p g)),
      )
  signs-shown s (All' x _ (one f end)) = signs-shown s f
  signs-shown s (Ex' x _ (one f end)) = signs-shown s f
  signs-shown s (All2' q _ (one f end)) = let h = signs-shown s f in (
    reaches-hidden (hides q.num p) s.pos s.neg (has_sign true p f) (has_sign false p f) (signs_under s p f) is_pos h.0,
    reaches-hidden (hides q.num p) s.neg s.pos (has_sign true p f) (has_sign false p f) (signs_under s p f) is_neg h.1,
  )
  signs-shown s (Ex2' q _ (one f end)) = let h = signs-shown s f in (
    reaches-hidden (hides q.num p) s.pos s.neg (has_sign true p f) (has_sign false p f) (signs_under s p f) is_pos h.0,
    reaches-hidden (hides q.num p) s.neg s.pos (has_sign true p f) (has_sign false p f) (signs_under s p f) is_neg h.1,
  )

pub pos-is-sign : (p : Pred) (f : Form) → occurs_pos p f ≡ has_sign true p f
pos-is-sign p f = (signs-shown p (record { pos = true; neg = false }) f).0 ∙ sym (none_after (has_sign true p f))

pub neg-is-sign : (p : Pred) (f : Form) → occurs_neg p f ≡ has_sign false p f
neg-is-sign p f = (signs-shown p (record { pos = true; neg = false }) f).1
