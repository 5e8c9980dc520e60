-- The longest sign at the front of a text.
use Rattle.std.proofs.Common.{◌≡◌, ℕ, zero, suc, ◌≤◌, ◌<◌, true, false, List, [], ◌∷◌, length, take, get_or, refl, arith}
use Rattle.std.proofs.lemmas.Bool.Decides.{nat_tests}
use Rattle.soqe_lex.specs.Lexical.{is_single, is_pair, is_triple, is_mark}
use Rattle.soqe_lex.specs.Front.{IsLongestOf, HasNone}

-- what is no mark, past n bytes
none-longer : (bytes : List ℕ) (n : ℕ) → (n < 1 → is_single (get_or bytes 0 0) ≡ false) → (n < 2 → is_pair (get_or bytes 0 0) (get_or bytes 1 0) ≡ false)
    → (n < 3 → is_triple (get_or bytes 0 0) (get_or bytes 1 0) (get_or bytes 2 0) ≡ false) → (k : ℕ) → n < k → k ≤ length bytes → is_mark (take k bytes) ≡ false
none-longer bytes n s p t zero lt le = absurd (omega arith)
none-longer [] n s p t (suc k) lt le = absurd (omega arith)
none-longer (a ∷ bs) n s p t (suc zero) lt le = s (omega arith)
none-longer (a ∷ []) n s p t (suc (suc k)) lt le = absurd (omega arith)
none-longer (a ∷ b ∷ bs) n s p t (suc (suc zero)) lt le = p (omega arith)
none-longer (a ∷ b ∷ []) n s p t (suc (suc (suc k))) lt le = absurd (omega arith)
none-longer (a ∷ b ∷ c ∷ bs) n s p t (suc (suc (suc zero))) lt le = t (omega arith)
none-longer (a ∷ b ∷ c ∷ []) n s p t (suc (suc (suc (suc k)))) lt le = absurd (omega arith)
none-longer (a ∷ b ∷ c ∷ d ∷ bs) n s p t (suc (suc (suc (suc k)))) lt le = refl

single-mark : (bytes : List ℕ) → is_single (get_or bytes 0 0) ≡ true → (1 ≤ length bytes) × (is_mark (take 1 bytes) ≡ true)
single-mark [] h = absurd cc
single-mark (a ∷ bs) h = (omega arith, h)

pair-mark : (bytes : List ℕ) → is_pair (get_or bytes 0 0) (get_or bytes 1 0) ≡ true → (2 ≤ length bytes) × (is_mark (take 2 bytes) ≡ true)
pair-mark [] h = absurd cc
pair-mark (a ∷ []) h = absurd (grind (arith, nat_tests))
pair-mark (a ∷ b ∷ bs) h = (omega arith, h)

triple-mark : (bytes : List ℕ) → is_triple (get_or bytes 0 0) (get_or bytes 1 0) (get_or bytes 2 0) ≡ true → (3 ≤ length bytes) × (is_mark (take 3 bytes) ≡ true)
triple-mark [] h = absurd cc
triple-mark (a ∷ []) h = absurd (grind (arith, nat_tests))
triple-mark (a ∷ b ∷ []) h = absurd (grind (arith, nat_tests))
triple-mark (a ∷ b ∷ c ∷ bs) h = (omega arith, h)

pub triple_longest : (bytes : List ℕ) → is_triple (get_or bytes 0 0) (get_or bytes 1 0) (get_or bytes 2 0) ≡ true → IsLongestOf is_mark bytes 3
triple_longest bytes t = record {
  within = (triple-mark bytes t).0;
  passes = (triple-mark bytes t).1;
  longest = none-longer bytes 3 (λ h. absurd (omega arith)) (λ h. absurd (omega arith)) (λ h. absurd (omega arith));
}

pub pair_longest : (bytes : List ℕ) → is_triple (get_or bytes 0 0) (get_or bytes 1 0) (get_or bytes 2 0) ≡ false → is_pair (get_or bytes 0 0) (get_or bytes 1 0) ≡ true
    → IsLongestOf is_mark bytes 2
pair_longest bytes t p = record {
  within = (pair-mark bytes p).0;
  passes = (pair-mark bytes p).1;
  longest = none-longer bytes 2 (λ h. absurd (omega arith)) (λ h. absurd (omega arith)) (λ h. t);
}

pub single_longest : (bytes : List ℕ) → is_triple (get_or bytes 0 0) (get_or bytes 1 0) (get_or bytes 2 0) ≡ false → is_pair (get_or bytes 0 0) (get_or bytes 1 0) ≡ false
    → is_single (get_or bytes 0 0) ≡ true → IsLongestOf is_mark bytes 1
single_longest bytes t p s = record {
  within = (single-mark bytes s).0;
  passes = (single-mark bytes s).1;
  longest = none-longer bytes 1 (λ h. absurd (omega arith)) (λ h. p) (λ h. t);
}

pub no_mark : (bytes : List ℕ) → is_triple (get_or bytes 0 0) (get_or bytes 1 0) (get_or bytes 2 0) ≡ false → is_pair (get_or bytes 0 0) (get_or bytes 1 0) ≡ false
    → is_single (get_or bytes 0 0) ≡ false → HasNone is_mark bytes
no_mark bytes t p s zero le = refl
no_mark bytes t p s (suc k) le = none-longer bytes 0 (λ h. s) (λ h. p) (λ h. t) (suc k) (omega arith) le
