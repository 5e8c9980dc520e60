-- The longest number at the front of a text.
use Rattle.std.proofs.Common.{◌≡◌, ◌⊎◌, inl, inr, ℕ, zero, suc, ◌+◌, ◌-◌, ◌/◌, ◌≤◌, ◌<◌, ◌^◌, ◌==◌, Bool, true, false, ◌&&◌, nat_lt, List, [], ◌∷◌, length, take, get_or, refl, sym, subst, ◌∙◌, arith}
use Rattle.std.specs.List.{list_all}
use Rattle.std.specs.Char.{is_ascii_digit, digit_value}
use Rattle.std.specs.Str.Parse.{digits_value}
use Rattle.std.proofs.lemmas.Bool.{lt-ltb, le-ltb, and_from, and_left, and_right, ne_eqb, not_from_false}
use Rattle.std.proofs.lemmas.Bool.Decides.{nat_tests}
use Rattle.std.proofs.lemmas.List.Folds.{list_all_more, list_all_kept}
use Rattle.std.proofs.lemmas.Int.Digits.{digits_value_more}
use Rattle.soqe_lex.specs.Lexical.{has_no_leading_zero, is_number}
use Rattle.soqe_lex.specs.Front.{IsLongestOf, HasNone}

pub digit_plain : (c : ℕ) → is_ascii_digit c ≡ true → digit_value c ≡ c - 48
digit_plain c h = grind (arith, nat_tests)

plain-from : (b : ℕ) (xs : List ℕ) → (b ≡ 48 → ⊥) → has_no_leading_zero (b ∷ xs) ≡ true
plain-from b [] h = refl
plain-from b (c ∷ xs) h = not_from_false (b == 48) (ne_eqb b 48 h)

plain-take : (bytes : List ℕ) (n : ℕ) → 0 < n → n ≤ length bytes → (get_or bytes 0 0 ≡ 48 → ⊥) → has_no_leading_zero (take n bytes) ≡ true
plain-take [] n some within h = absurd (omega arith)
plain-take (b ∷ bs) zero some within h = absurd (omega arith)
plain-take (b ∷ bs) (suc n) some within h = plain-from b (take n bs) h

-- more digits make no smaller number
grows : (bytes : List ℕ) (m k : ℕ) → m + k ≤ length bytes → digits_value 10 (take m bytes) ≤ digits_value 10 (take (m + k) bytes)
grows bytes m zero within = let e : m + 0 ≡ m = omega arith in rw e (omega arith)
grows bytes m (suc k) within =
    let e : m + suc k ≡ (m + k) + 1 = omega arith in
    let lt : m + k < length bytes = omega arith in
    rw (e, digits_value_more 10 bytes (m + k) lt) (omega (arith, grows bytes m k (omega arith)))

kept : (p : ℕ → Bool) (xs : List ℕ) (i k : ℕ) → list_all p (take i xs) ≡ false → list_all p (take (i + k) xs) ≡ false
kept p xs i zero h = let e : i + 0 ≡ i = omega arith in rw e h
kept p xs i (suc k) h = let e : i + suc k ≡ (i + k) + 1 = omega arith in rw e (list_all_kept p xs (i + k) (kept p xs i k h))

pub number_len_is : (bytes : List ℕ) (n : ℕ) → 0 < n → n ≤ length bytes → (get_or bytes 0 0 ≡ 48 → ⊥)
    → list_all is_ascii_digit (take n bytes) ≡ true → digits_value 10 (take n bytes) < 2 ^ 64
    → (n < length bytes → (is_ascii_digit (get_or bytes n 0) ≡ false) ⊎ (2 ^ 64 ≤ digits_value 10 (take (n + 1) bytes)))
    → IsLongestOf is_number bytes n
number_len_is bytes n some within plain digits small stop = record {
  within = within;
  passes = and_from (has_no_leading_zero (take n bytes) && list_all is_ascii_digit (take n bytes)) (nat_lt (digits_value 10 (take n bytes)) (2 ^ 64))
      (and_from (has_no_leading_zero (take n bytes)) (list_all is_ascii_digit (take n bytes)) (plain-take bytes n some within plain) digits)
      (lt-ltb (digits_value 10 (take n bytes)) (2 ^ 64) small);
  longest = λ k lt le. too_long k lt le (stop (omega (arith, lt, le)));
}
  where
    too_long : (k : ℕ) → n < k → k ≤ length bytes → (is_ascii_digit (get_or bytes n 0) ≡ false) ⊎ (2 ^ 64 ≤ digits_value 10 (take (n + 1) bytes)) → is_number (take k bytes) ≡ false
    too_long k lt le (inl d) =
        let e : k ≡ (n + 1) + (k - (n + 1)) = omega arith in
        let one : list_all is_ascii_digit (take (n + 1) bytes) ≡ false = list_all_more is_ascii_digit bytes n 0 (omega arith) ∙ and_right (list_all is_ascii_digit (take n bytes)) (is_ascii_digit (get_or bytes n 0)) d in
        let all : list_all is_ascii_digit (take k bytes) ≡ false = rw e (kept is_ascii_digit bytes (n + 1) (k - (n + 1)) one) in
        and_left (has_no_leading_zero (take k bytes) && list_all is_ascii_digit (take k bytes)) (nat_lt (digits_value 10 (take k bytes)) (2 ^ 64))
        (and_right (has_no_leading_zero (take k bytes)) (list_all is_ascii_digit (take k bytes)) all)
    too_long k lt le (inr big) =
        let e : (n + 1) + (k - (n + 1)) ≡ k = omega arith in
        let g : digits_value 10 (take (n + 1) bytes) ≤ digits_value 10 (take k bytes) = rw e at (grows bytes (n + 1) (k - (n + 1)) (omega arith)) in
        and_right (has_no_leading_zero (take k bytes) && list_all is_ascii_digit (take k bytes)) (nat_lt (digits_value 10 (take k bytes)) (2 ^ 64))
        (le-ltb (digits_value 10 (take k bytes)) (2 ^ 64) (omega (arith, g, big)))

zero-long : (bs : List ℕ) (k : ℕ) → 1 < k → k ≤ length (48 ∷ bs) → is_number (take k (48 ∷ bs)) ≡ false
zero-long bs zero lt le = absurd (omega arith)
zero-long bs (suc zero) lt le = absurd (omega arith)
zero-long [] (suc (suc k)) lt le = absurd (omega arith)
zero-long (c ∷ bs) (suc (suc k)) lt le = refl

pub zero_longest : (bytes : List ℕ) → get_or bytes 0 0 ≡ 48 → IsLongestOf is_number bytes 1
zero_longest [] e = absurd (omega (arith, e))
zero_longest (b ∷ bs) e = subst (λ (x : ℕ). IsLongestOf is_number (x ∷ bs) 1) (sym e) (record { within = omega arith; passes = refl; longest = zero-long bs })

-- what is no number, by its first byte
pub other_first : (b : ℕ) (bs : List ℕ) → is_ascii_digit b ≡ false → is_number (b ∷ bs) ≡ false
other_first b bs h =
    and_left (has_no_leading_zero (b ∷ bs) && list_all is_ascii_digit (b ∷ bs)) (nat_lt (digits_value 10 (b ∷ bs)) (2 ^ 64))
    (and_right (has_no_leading_zero (b ∷ bs)) (list_all is_ascii_digit (b ∷ bs)) (and_left (is_ascii_digit b) (list_all is_ascii_digit bs) h))

pub no_number : (bytes : List ℕ) → is_ascii_digit (get_or bytes 0 0) ≡ false → HasNone is_number bytes
no_number [] h zero le = refl
no_number [] h (suc k) le = refl
no_number (b ∷ bs) h zero le = refl
no_number (b ∷ bs) h (suc k) le = other_first b (take k bs) h

starts-at : (bytes : List ℕ) → is_ascii_digit (get_or bytes 0 0) ≡ true → 0 < length bytes
starts-at [] h = absurd cc
starts-at (b ∷ bs) h = omega arith

-- where the loop over digits stops
module _ (bytes : List ℕ) (n v : ℕ) (starts : is_ascii_digit (get_or bytes 0 0) ≡ true) (plain : get_or bytes 0 0 ≡ 48 → ⊥)
    (digits : list_all is_ascii_digit (take n bytes) ≡ true) (value : v ≡ digits_value 10 (take n bytes)) (small : v < 2 ^ 64) where
  pub stop_at_other : n < length bytes → is_ascii_digit (get_or bytes n 0) ≡ false → IsLongestOf is_number bytes n
  stop_at_other lt h = number_len_is bytes n (some n h) (omega arith) plain digits (omega arith) (λ _. inl h)
    where
      some : (k : ℕ) → is_ascii_digit (get_or bytes k 0) ≡ false → 0 < k
      some zero e = absurd cc
      some (suc k) e = omega arith

  pub stop_at_value : n < length bytes → is_ascii_digit (get_or bytes n 0) ≡ true → ((2 ^ 64 - 1) - (get_or bytes n 0 - 48)) / 10 < v → IsLongestOf is_number bytes n
  stop_at_value lt h big =
      let more = digits_value_more 10 bytes n lt in
      let d = digit_plain (get_or bytes n 0) h in
      let some : 0 < n = positive n (omega (arith, big, value)) in
      number_len_is bytes n some (omega arith) plain digits (omega arith) (λ _. inr (omega (arith, more, d, big, value)))
    where
      positive : (k : ℕ) → 0 < digits_value 10 (take k bytes) → 0 < k
      positive zero e = e
      positive (suc k) e = omega arith

  pub stop_at_end : n ≡ length bytes → IsLongestOf is_number bytes (length bytes)
  stop_at_end e = rw e at (number_len_is bytes n (omega (arith, starts-at bytes starts, e)) (omega (arith, e)) plain digits (omega arith) (λ lt. absurd (omega (arith, lt, e))))
