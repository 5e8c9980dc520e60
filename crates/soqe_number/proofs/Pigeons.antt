-- A list that has every number below n has at least n items: each number is struck off once.
use Rattle.std.proofs.Common.{◌≡◌, ℕ, zero, suc, ◌+◌, ◌-◌, ◌<◌, ◌≤◌, ⊎_elim, Bool, true, false, cond, eqb, ◌||◌, List, [], ◌∷◌, length, refl, sym, ◌∙◌, ap, subst, arith}
use Rattle.std.proofs.lemmas.Bool.{cases_lt, eqb-true, eqb-false, ne_eqb}
use Rattle.soqe_number.specs.Unused.{member, IsLeastUnused}
use Rattle.soqe_number.proofs.Choices.{by_cases, bool_cases, or_holds}

-- the list without the first n
strike : ℕ → List ℕ → List ℕ
strike n [] = []
strike n (x ∷ xs) = cond (eqb n x) xs (x ∷ strike n xs)

length-strike : (n : ℕ) (xs : List ℕ) → member n xs ≡ true → suc (length (strike n xs)) ≡ length xs
unfolding strike
length-strike n [] h = let h : false ≡ true = h in cc
length-strike n (x ∷ xs) h =
    by_cases (λ s. suc (length s) ≡ suc (length xs)) (eqb n x) xs (x ∷ strike n xs) (λ e. refl) (λ e. ap suc (length-strike n xs (or_holds (eqb n x) (member n xs) e h)))

member-strike : (k n : ℕ) (xs : List ℕ) → k < n → member k xs ≡ true → member k (strike n xs) ≡ true
unfolding strike
member-strike k n [] l h = h
member-strike k n (x ∷ xs) l h =
    by_cases (λ s. member k s ≡ true) (eqb n x) xs (x ∷ strike n xs)
    (λ e. let ne : eqb k x ≡ false = (let q : n ≡ x = eqb-true n x e in ne_eqb k x (omega arith)) in or_holds (eqb k x) (member k xs) ne h)
    (λ e. either (eqb k x) (member k xs) (member k (strike n xs)) (λ m. member-strike k n xs l m) h)
  where
    either : (b c d : Bool) → (c ≡ true → d ≡ true) → (b || c) ≡ true → (b || d) ≡ true
    either true c d f h = refl
    either false c d f h = f h

pub few_numbers : (n : ℕ) (xs : List ℕ) → ((k : ℕ) → k < n → member k xs ≡ true) → n ≤ length xs
few_numbers zero xs h = omega arith
few_numbers (suc n) xs h =
    let rest = few_numbers n (strike n xs) (λ k l. member-strike k n xs l (h k (omega arith))) in
    omega (arith, rest, length-strike n xs (h n (omega arith)))

pub next_too : (n : ℕ) (xs : List ℕ) → ((k : ℕ) → k < n → member k xs ≡ true) → member n xs ≡ true → (k : ℕ) → k < suc n → member k xs ≡ true
next_too n xs h m k l = bool_cases (λ q. eqb k n ≡ q → member k xs ≡ true) (eqb k n)
    (λ e q. ap (λ j. member j xs) (eqb-true k n q) ∙ m) (λ e q. h k (let ne : k ≡ n → ⊥ = eqb-false k n q in omega arith)) refl

-- where every number below the length is there, the length is not
pub least_of_full : (xs : List ℕ) → ((k : ℕ) → k < length xs → member k xs ≡ true) → IsLeastUnused xs (length xs)
least_of_full xs h = record {
  unused = bool_cases (λ q. member (length xs) xs ≡ q → q ≡ false) (member (length xs) xs)
      (λ e q. let more = few_numbers (suc (length xs)) xs (next_too (length xs) xs h e) in absurd (omega (arith, more))) (λ e q. refl) refl;
  least = h;
}

-- the numbers below a base and those of a window from there on
pub found_more : (xs : List ℕ) (base n m : ℕ) → m ≡ base + n → ((k : ℕ) → k < base → member k xs ≡ true) → ((k : ℕ) → k < n → member (base + k) xs ≡ true)
    → (k : ℕ) → k < m → member k xs ≡ true
found_more xs base n m e h g k l = ⊎_elim (h k)
    (λ b. let q : base + (k - base) ≡ k = omega arith in subst (λ j. member j xs ≡ true) q (g (k - base) (omega arith)))
    (cases_lt k base)

-- the first number of a window that the list lacks
pub least_at : (xs : List ℕ) (base n m : ℕ) → m ≡ base + n → ((k : ℕ) → k < base → member k xs ≡ true) → ((k : ℕ) → k < n → member (base + k) xs ≡ true)
    → member (base + n) xs ≡ false → IsLeastUnused xs m
least_at xs base n m e h g u = record {
  unused = subst (λ j. member j xs ≡ false) (sym e) u;
  least = found_more xs base n m e h g;
}

-- where more numbers than the list has items are there
pub least_of_many : (xs : List ℕ) (n : ℕ) → length xs ≤ n → ((k : ℕ) → k < n → member k xs ≡ true) → IsLeastUnused xs (length xs)
least_of_many xs n e h = least_of_full xs (λ k l. h k (omega arith))
