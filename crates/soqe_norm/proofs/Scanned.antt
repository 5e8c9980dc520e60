-- What one pass over the atoms' signs finds.
use Rattle.std.proofs.Common.{◌≡◌, ℕ, suc, ◌+◌, Bool, true, false, cond, not, ◌||◌, List, [], ◌∷◌, ◌++◌, Option, Some, None, length, refl, sym, ◌∙◌, ap, arith}
use Rattle.std.specs.Prelude.{nat_lt, position}
use Rattle.std.specs.List.{list_any, position_or_len}
use Rattle.std.specs.Option.{is_some}
use Rattle.soqe_norm.specs.declared.signs.Passed.{Passed}
use Rattle.soqe_form.specs.declared.form.Pred.{Pred}
use Rattle.soqe_form.specs.declared.form.Form.{Form}
use Rattle.soqe_norm.specs.Signs.{Signs, signs_under}
use Rattle.soqe_norm.specs.Valued.{from_one}
use Rattle.soqe_norm.specs.Passes.{cap, capped, next, note, noted, scanned}

pub scanned_append : (c : Passed) (xs ys : List Signs) → scanned (scanned c xs) ys ≡ scanned c (xs ++ ys)
scanned_append c [] ys = refl
scanned_append c (s ∷ xs) ys = scanned_append (noted c s) xs ys

-- a pass over two formulas, one after the other
pub scanned_parts : (p : Pred) (s t : Signs) (f g : Form) (s' t' : Signs) (f' g' : Form) (a b c : Passed) → s' ≡ s → t' ≡ t → f' ≡ f → g' ≡ g
    → b ≡ scanned a (signs_under s' p f') → c ≡ scanned b (signs_under t' p g') → c ≡ scanned a (signs_under s p f ++ signs_under t p g)
scanned_parts p s t f g s' t' f' g' a b c s-is t-is f-is g-is h k =
    k
    ∙ (λ i. scanned ((h ∙ (λ j. scanned a (signs_under (s-is j) p (f-is j)))) i) (signs_under (t-is i) p (g-is i)))
    ∙ scanned_append a (signs_under s p f) (signs_under t p g)

-- the pass for one sign alone
abbrev pass : (Signs → Bool) → ℕ → Option ℕ → List Signs → Option ℕ
pass test k o [] = o
pass test k o (s ∷ rest) = pass test (next k) (note o (test s) (next k)) rest

abbrev is_pos : Signs → Bool
is_pos s = s.pos

abbrev is_neg : Signs → Bool
is_neg s = s.neg

pos-pass : (c : Passed) (xs : List Signs) → (scanned c xs).pos ≡ pass is_pos c.seen c.pos xs
pos-pass c [] = refl
pos-pass c (s ∷ xs) = pos-pass (noted c s) xs

neg-pass : (c : Passed) (xs : List Signs) → (scanned c xs).neg ≡ pass is_neg c.seen c.neg xs
neg-pass c [] = refl
neg-pass c (s ∷ xs) = neg-pass (noted c s) xs

abbrev shifted : Option ℕ → Option ℕ
shifted None = None
shifted (Some n) = Some (1 + n)

next-cap : (k : ℕ) → next (cap k) ≡ cap (suc k)
next-cap k = grind arith

module _ (test : Signs → Bool) where
  pass-kept : (k n : ℕ) (xs : List Signs) → pass test k (Some n) xs ≡ Some n
  pass-kept k n [] = refl
  pass-kept k n (s ∷ xs) = pass-kept (next k) n xs

  first-place : (l : ℕ) → nat_lt 0 (suc l) ≡ true
  first-place l = grind arith

  one-less : (n l : ℕ) → nat_lt (1 + n) (suc l) ≡ nat_lt n l
  one-less n l = grind arith

  place-after : (b : Bool) (n l : ℕ) → cond (nat_lt (cond (not b) (1 + n) 0) (suc l)) (Some (cond (not b) (1 + n) 0)) None ≡ cond b (Some 0) (shifted (cond (nat_lt n l) (Some n) None))
  place-after true n l = ap (λ b. cond b (Some 0) None) (first-place l)
  place-after false n l = (λ i. cond (one-less n l i) (Some (1 + n)) None) ∙ choose (nat_lt n l)
    where
      choose : (b : Bool) → cond b (Some (1 + n)) None ≡ shifted (cond b (Some n) None)
      choose true = refl
      choose false = refl

  position-cons : (s : Signs) (xs : List Signs) → position test (s ∷ xs) ≡ cond (test s) (Some 0) (shifted (position test xs))
  position-cons s xs = place-after (test s) (position_or_len test xs) (length xs)

  -- a place counted from 1, behind k atoms
  abbrev behind : ℕ → Option ℕ → Option ℕ
  behind k None = None
  behind k (Some n) = Some (cap (suc (k + n)))

  behind-more : (k : ℕ) (o : Option ℕ) → behind (suc k) o ≡ behind k (shifted o)
  behind-more k None = refl
  behind-more k (Some n) = let e : suc k + n ≡ k + (1 + n) = omega arith in ap (λ n. Some (cap (suc n))) e

  pass-finds : (k : ℕ) (xs : List Signs) → pass test (cap k) None xs ≡ behind k (position test xs)
  pass-finds k [] = refl
  pass-finds k (s ∷ xs) = choose (test s) (pass-finds (suc k) xs) ∙ ap (behind k) (sym (position-cons s xs))
    where
      choose : (b : Bool) → pass test (cap (suc k)) None xs ≡ behind (suc k) (position test xs)
          → pass test (next (cap k)) (note None b (next (cap k))) xs ≡ behind k (cond b (Some 0) (shifted (position test xs)))
      choose true h = let e : suc k ≡ suc (k + 0) = omega arith in pass-kept (next (cap k)) (next (cap k)) xs ∙ ap Some (next-cap k) ∙ ap (λ n. Some (cap n)) e
      choose false h = ap (λ n. pass test n None xs) (next-cap k) ∙ h ∙ behind-more k (position test xs)

  behind-none : (o : Option ℕ) → behind 0 o ≡ capped (from_one o)
  behind-none None = refl
  behind-none (Some n) = let e : suc (0 + n) ≡ suc n = omega arith in ap (λ n. Some (cap n)) e

  pub some-any : (xs : List Signs) → is_some (position test xs) ≡ list_any test xs
  some-any [] = refl
  some-any (s ∷ xs) = ap (λ o. is_some o) (position-cons s xs) ∙ choose (test s) (some-any xs)
    where
      shift : (o : Option ℕ) → is_some (shifted o) ≡ is_some o
      shift None = refl
      shift (Some n) = refl

      choose : (b : Bool) → is_some (position test xs) ≡ list_any test xs → is_some (cond b (Some 0) (shifted (position test xs))) ≡ (b || list_any test xs)
      choose true h = refl
      choose false h = shift (position test xs) ∙ h

pub finds_pos : (xs : List Signs) → (scanned (record { seen = 0; pos = None; neg = None }) xs).pos ≡ capped (from_one (position (λ s. s.pos) xs))
finds_pos xs = pos-pass (record { seen = 0; pos = None; neg = None }) xs ∙ pass-finds is_pos 0 xs ∙ behind-none is_pos (position is_pos xs)

pub finds_neg : (xs : List Signs) → (scanned (record { seen = 0; pos = None; neg = None }) xs).neg ≡ capped (from_one (position (λ s. s.neg) xs))
finds_neg xs = neg-pass (record { seen = 0; pos = None; neg = None }) xs ∙ pass-finds is_neg 0 xs ∙ behind-none is_neg (position is_neg xs)

capped-some : (o : Option ℕ) → is_some (capped (from_one o)) ≡ is_some o
capped-some None = refl
capped-some (Some n) = refl

-- a first place there is exactly where some atom has the sign
pub some_pos : (xs : List Signs) → is_some (capped (from_one (position (λ s. s.pos) xs))) ≡ list_any (λ s. s.pos) xs
some_pos xs = capped-some (position is_pos xs) ∙ some-any is_pos xs

pub some_neg : (xs : List Signs) → is_some (capped (from_one (position (λ s. s.neg) xs))) ≡ list_any (λ s. s.neg) xs
some_neg xs = capped-some (position is_neg xs) ∙ some-any is_neg xs
