-- The least numbers that fail a test: how their list grows.
use Rattle.std.proofs.Common.{◌≡◌, ℕ, ◌+◌, ◌<◌, ⊎_elim, Bool, true, false, List, [], ◌∷◌, ◌++◌, ◌≤◌, ◌||◌, length, length-append, refl, sym, ◌∙◌, ap, subst, arith}
use Rattle.std.specs.Prelude.{slice_index}
use Rattle.std.proofs.lemmas.Bool.{cases_lt, both_ways}
use Rattle.std.proofs.lemmas.List.{get_or_append_left, get_or_push}
use Rattle.soqe_number.specs.Unused.{member}
use Rattle.soqe_number.specs.Marks.{IsLeastWithout}
use Rattle.soqe_number.specs.Unkept.{IsBefore, AreFirst}

pub or_second : (b c : Bool) → (b ≡ false → c ≡ true) → (b || c) ≡ true
or_second true c h = refl
or_second false c h = h refl

-- each number below n that fails is in the list
abbrev pub HasBelow : (ℕ → Bool) → List ℕ → ℕ → Type 0
HasBelow p ns n = (k : ℕ) → k < n → p k ≡ false → IsBefore ns (length ns) k

-- a number of the list stays where it is
stays : (ns : List ℕ) (m k n : ℕ) → k ≤ length ns → IsBefore ns k n → IsBefore (ns ++ m ∷ []) k n
stays ns m k n l b = (b.0, b.1, get_or_append_left ns (m ∷ []) 0 b.0 (omega (arith, b.1)) ∙ b.2)

length-one : (ns : List ℕ) (m : ℕ) → length (ns ++ m ∷ []) ≡ length ns + 1
length-one ns m = length-append ns (m ∷ [])

-- one more number that fails
pub first-more : (p : ℕ → Bool) (ns : List ℕ) (n : ℕ) → p n ≡ false → AreFirst p ns → HasBelow p ns n → AreFirst p (ns ++ n ∷ [])
first-more p ns n e a h = record {
  fail = λ i l. ⊎_elim (λ lt. ap p (get_or_append_left ns (n ∷ []) 0 i lt) ∙ a.fail i lt)
      (λ le. let at : length ns ≡ i = omega (arith, length-one ns n) in ap p (get_or_push ns n 0 i at) ∙ e) (cases_lt i (length ns));
  first = λ i k l b f. ⊎_elim
      (λ lt. let b : k < slice_index ns i = subst (λ m. k < m) (get_or_append_left ns (n ∷ []) 0 i lt) b in stays ns n i k (omega arith) (a.first i k lt b f))
      (λ le.
      let at : length ns ≡ i = omega (arith, length-one ns n) in
      let b : k < n = subst (λ m. k < m) (get_or_push ns n 0 i at) b in
      subst (λ i. IsBefore (ns ++ n ∷ []) i k) at (stays ns n (length ns) k (omega arith) (h k b f)))
      (cases_lt i (length ns));
}

pub has-more : (p : ℕ → Bool) (ns : List ℕ) (n : ℕ) → HasBelow p ns n → HasBelow p (ns ++ n ∷ []) (n + 1)
has-more p ns n h k l f =
    ⊎_elim (λ lt. let b = stays ns n (length ns) k (omega arith) (h k lt f) in (b.0, omega (arith, b.1, length-one ns n), b.2))
    (λ le. let same : n ≡ k = omega arith in (length ns, omega (arith, length-one ns n), get_or_push ns n 0 (length ns) refl ∙ same)) (cases_lt k n)

-- a number that passes is none of the list
pub has-passed : (p : ℕ → Bool) (ns : List ℕ) (n : ℕ) → p n ≡ true → HasBelow p ns n → HasBelow p ns (n + 1)
has-passed p ns n e h k l f =
    ⊎_elim (λ lt. h k lt f) (λ le. let same : k ≡ n = omega arith in absurd (both_ways (p k) f (ap p same ∙ e))) (cases_lt k n)

-- where the numbers in front of the one at i are in a list and that one is not, it is the least that neither passes nor is in the list
pub first-beside : (p : ℕ → Bool) (ns ms : List ℕ) (i n : ℕ) → i < length ns → n ≡ slice_index ns i → member n ms ≡ false → ((j : ℕ) → j < i → member (slice_index ns j) ms ≡ true)
    → AreFirst p ns → IsLeastWithout (λ m. p m || member m ms) n
first-beside p ns ms i n l is none before a = record {
  fails = λ k. (ap p is ∙ a.fail i l) k || none k;
  below = λ k lt. or_second (p k) (member k ms)
      (λ e. let b = a.first i k l (subst (λ m. k < m) is lt) e in ap (λ m. member m ms) (sym b.2) ∙ before b.0 b.1);
}
