-- The list of the numbers below a count: how it grows, and its least unused number.
use Rattle.std.proofs.Common.{◌≡◌, ℕ, ◌+◌, ⊎_elim, Bool, true, false, ◌||◌, eqb, List, [], ◌∷◌, ◌++◌, refl, ◌∙◌, arith}
use Rattle.std.proofs.lemmas.Bool.{cases_lt, both_ways, or_left, or_right, eq-eqb, ne_eqb}
use Rattle.std.proofs.lemmas.List.Folds.{list_any-append}
use Rattle.soqe_number.specs.Unused.{member, IsLeastUnused}
use Rattle.soqe_calls.specs.Listed.{AreBelow}

none : (a b : Bool) → a ≡ false → b ≡ false → (a || b) ≡ false
none false false e h = refl
none false true e h = h
none true b e h = e

-- no number is below 0
pub below-none : AreBelow [] 0
below-none = record {
  has = λ k l. absurd (omega arith);
  lacks = λ k l. refl;
}

-- the next number is added
pub below-more : (nums : List ℕ) (n : ℕ) → AreBelow nums n → AreBelow (nums ++ n ∷ []) (n + 1)
below-more nums n b = record {
  has = λ k l. list_any-append (λ x. eqb k x) nums (n ∷ [])
      ∙ ⊎_elim (λ lt. or_left (member k nums) (member k (n ∷ [])) (b.has k lt))
      (λ le. or_right (member k nums) (member k (n ∷ [])) (or_left (eqb k n) false (eq-eqb k n (omega arith)))) (cases_lt k n);
  lacks = λ k l. list_any-append (λ x. eqb k x) nums (n ∷ [])
      ∙ none (member k nums) (member k (n ∷ [])) (b.lacks k (omega arith)) (none (eqb k n) false (ne_eqb k n (λ e. omega (arith, e, l))) refl);
}

-- the least unused number is the count
pub least-below : (nums : List ℕ) (n k : ℕ) → AreBelow nums n → IsLeastUnused nums k → k ≡ n
least-below nums n k b least =
    ⊎_elim (λ lt. absurd (both_ways (member k nums) least.unused (b.has k lt)))
    (λ le. ⊎_elim (λ lt. absurd (both_ways (member n nums) (b.lacks n (omega arith)) (least.least n lt))) (λ ge. omega arith) (cases_lt n k)) (cases_lt k n)
