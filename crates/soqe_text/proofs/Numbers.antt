-- Numbers as they are written, digit by digit.
use Rattle.std.specs.Prelude.{ℕ, zero, suc, ◌≡◌, ◌<◌, ◌^◌, ◌&&◌, Bool, true, false, cond, nat_lt, List, [], ◌∷◌, length, get_or, Some, None, refl}
use Rattle.std.proofs.Common.{sym, ap, arith, true≢false}
use Rattle.std.proofs.lemmas.Option.{none-some}
use Rattle.std.specs.Char.{is_ascii_digit}
use Rattle.std.specs.List.{list_all}
use Rattle.std.specs.Option.{unwrap_or}
use Rattle.std.specs.Str.Parse.{digits_value}
use Rattle.soqe_lex.specs.Lexical.{has_no_leading_zero, is_number}
use Rattle.soqe_text.specs.Number.{below_word}

below_none : (b : Bool) (n : ℕ) → None ≡ cond b (Some n) None → b ≡ false
below_none true n h = absurd (none-some n h)
below_none false n h = refl

below_some : (b : Bool) (n m : ℕ) → Some m ≡ cond b (Some n) None → (b ≡ true) × (m ≡ n)
below_some true n m h = (refl, ap (λ o. unwrap_or o m) h)
below_some false n m h = absurd (none-some m (sym h))

-- digits that are no number below 2 ^ 64
pub is_no_number : (text : List ℕ) → has_no_leading_zero text ≡ true → list_all is_ascii_digit text ≡ true → None ≡ below_word (digits_value 10 text) → is_number text ≡ false
is_no_number text plain digits h = λ i. (plain i && digits i) && below_none (nat_lt (digits_value 10 text) (2 ^ 64)) (digits_value 10 text) h i

-- digits that are one
pub is_a_number : (text : List ℕ) (n : ℕ) → has_no_leading_zero text ≡ true → list_all is_ascii_digit text ≡ true → Some n ≡ below_word (digits_value 10 text) → is_number text ≡ true
is_a_number text n plain digits h = λ i. (plain i && digits i) && (below_some (nat_lt (digits_value 10 text) (2 ^ 64)) (digits_value 10 text) n h).0 i

pub number_is : (text : List ℕ) (n : ℕ) → Some n ≡ below_word (digits_value 10 text) → n ≡ digits_value 10 text
number_is text n h = (below_some (nat_lt (digits_value 10 text) (2 ^ 64)) (digits_value 10 text) n h).1

both_first : (a b : Bool) → (a && b) ≡ true → a ≡ true
both_first true b h = refl
both_first false b h = absurd (true≢false (sym h))

both_second : (a b : Bool) → (a && b) ≡ true → b ≡ true
both_second true b h = h
both_second false b h = absurd (true≢false (sym h))

-- what holds of all holds at each place
pub holds_at : (p : ℕ → Bool) (xs : List ℕ) (i : ℕ) → i < length xs → list_all p xs ≡ true → p (get_or xs i 0) ≡ true
holds_at p [] i lt h = absurd (omega (arith, lt))
holds_at p (x ∷ xs) zero lt h = both_first (p x) (list_all p xs) h
holds_at p (x ∷ xs) (suc i) lt h = holds_at p xs i (omega (arith, lt)) (both_second (p x) (list_all p xs) h)
