-- Numbers: equality from the other side, the least number with a property, and the first one that passes a test.
use Rattle.std.proofs.Common.{◌≡◌, ℕ, zero, suc, ◌+◌, ◌<◌, ◌≤◌, Bool, true, false, eqb, not, ⊎_elim, List, sym, ◌∙◌, ap, arith}
use Rattle.std.proofs.lemmas.Bool.{cases_lt, both_ways}
use Rattle.soqe_term.specs.Occurs.{first_from}
use Rattle.soqe_number.proofs.Choices.{by_cases}
use Rattle.soqe_number.proofs.Equalities.{eqb_sym}
use Rattle.soqe_number.specs.Marks.{marked, IsLeastWithout}

-- an equality of numbers decided, read from the other side
pub eqb-swap : {b : Bool} (m n : ℕ) → eqb m n ≡ b → eqb n m ≡ b
eqb-swap m n h = eqb_sym n m ∙ h

-- a least number is the only one
pub least-one : (p : ℕ → Bool) (m n : ℕ) → IsLeastWithout p m → IsLeastWithout p n → m ≡ n
least-one p m n h k =
    ⊎_elim (λ lt. absurd (both_ways (p m) h.fails (k.below m lt)))
    (λ le. ⊎_elim (λ lt. absurd (both_ways (p n) k.fails (h.below n lt))) (λ more. omega arith) (cases_lt n m)) (cases_lt m n)

-- the first number that passes is the one below which none does
pub first_from-is : (p : ℕ → Bool) (i k n : ℕ) → i ≤ n → n ≤ i + k → p n ≡ true → ((m : ℕ) → i ≤ m → m < n → p m ≡ false) → first_from p i k ≡ n
first_from-is p i zero n a b h l = omega arith
first_from-is p i (suc k) n a b h l =
    by_cases (λ m. m ≡ n) (p i) i (first_from p (suc i) k)
    (λ e. ⊎_elim (λ lt. absurd (both_ways (p i) (l i (omega arith) lt) e)) (λ le. omega arith) (cases_lt i n))
    (λ e. ⊎_elim (λ lt. first_from-is p (suc i) k n (omega arith) (omega arith) h (λ m q r. l m (omega arith) r))
    (λ le. let same : n ≡ i = omega arith in absurd (both_ways (p n) (ap p same ∙ e) h)) (cases_lt i n))

-- where marks are on the used numbers alone, and `last` is none of these
pub first-unmarked : (used : ℕ → Bool) (last : ℕ) (c : List (ℕ × Bool)) (n : ℕ) → marked c ≡ used → used last ≡ false → IsLeastWithout (marked c) n → n ≡ first_from (λ m. not (used m)) 0 last
first-unmarked used last c n is at_last least =
    let within : n ≤ 0 + last = ⊎_elim (λ lt. absurd (both_ways (marked c last) ((λ i. is i last) ∙ at_last) (least.below last lt))) (λ le. omega arith) (cases_lt last n) in
    sym (first_from-is (λ m. not (used m)) 0 last n (omega arith) within
    (ap not ((λ i. sym is i n) ∙ least.fails))
    (λ m g l. ap not ((λ i. sym is i m) ∙ least.below m l)))
