-- Quantifiers over tests of a simple kind: a test that always gives one answer, and one that is decided off one point.
use Rattle.std.proofs.Common.{◌≡◌, ℕ, zero, suc, ◌<◌, Bool, true, false, eqb, ◌||◌, ◌&&◌, List, [], ◌∷◌, refl, sym, ◌∙◌, subst}
use Rattle.std.proofs.lemmas.Bool.{eqb-true, both_ways, or_from}
use Rattle.soqe_number.specs.Finite.{every, some, every_list, some_list}
use Rattle.soqe_number.proofs.Choices.{bool_cases, same_test}
use Rattle.soqe_number.proofs.Enumerations.{found, finds, every-at, every-from}

-- what holds of a point, and of all numbers but the point, holds of each number
pub at-or-off : (P : ℕ → Type 0) (a b : ℕ) → P a → (eqb b a ≡ false → P b) → P b
at-or-off P a b h k = bool_cases (λ c. eqb b a ≡ c → P b) (eqb b a) (λ _ e. subst P (sym (eqb-true b a e)) h) (λ _ e. k e) refl

-- where a test fails off one point, some element passes if the point does
pub some-point : (n a : ℕ) (p : ℕ → Bool) → a < n → ((b : ℕ) → eqb b a ≡ false → p b ≡ false) → some n p ≡ p a
some-point n a p l off = same_test (some n p) (p a)
    (λ h. let r = found n p h in at-or-off (λ b. p b ≡ true → p a ≡ true) a r.at (λ q. q) (λ e q. absurd (both_ways (p r.at) (off r.at e) q)) r.passes)
    (λ h. finds n p a l h)

-- where a test holds off one point, every element passes if the point does
pub every-point : (n a : ℕ) (p : ℕ → Bool) → a < n → ((b : ℕ) → eqb b a ≡ false → p b ≡ true) → every n p ≡ p a
every-point n a p l off = same_test (every n p) (p a)
    (λ h. every-at n p h a l)
    (λ h. every-from n p (λ b m. at-or-off (λ b. p b ≡ true) a b h (off b)))

pub some-none : (n : ℕ) (p : ℕ → Bool) → ((a : ℕ) → p a ≡ false) → some n p ≡ false
some-none zero p h = refl
some-none (suc n) p h = or_from (some n p) (p n) (some-none n p h) (h n)

-- where a test has one answer at every element, and there is an element
pub every-constant : (n : ℕ) (p : ℕ → Bool) (b : Bool) → 0 < n → ((a : ℕ) → p a ≡ b) → every n p ≡ b
every-constant n p b l h = same_test (every n p) b (λ q. sym (h 0) ∙ every-at n p q 0 l) (λ q. every-from n p (λ a m. h a ∙ q))

pub some-constant : (n : ℕ) (p : ℕ → Bool) (b : Bool) → 0 < n → ((a : ℕ) → p a ≡ b) → some n p ≡ b
some-constant n p b l h = same_test (some n p) b (λ q. let r = found n p q in sym (h r.at) ∙ r.passes) (λ q. finds n p 0 l (h 0 ∙ q))

and-itself : (b : Bool) → (b && b) ≡ b
and-itself true = refl
and-itself false = refl

or-itself : (b : Bool) → (b || b) ≡ b
or-itself true = refl
or-itself false = refl

-- at every table; there is always one, even where it has no entry
pub every_list-constant : (n : ℕ) (p : List Bool → Bool) (b : Bool) → ((t : List Bool) → p t ≡ b) → every_list n p ≡ b
every_list-constant zero p b h = h []
every_list-constant (suc n) p b h =
    (λ i. every_list-constant n (λ t. p (true ∷ t)) b (λ t. h (true ∷ t)) i && every_list-constant n (λ t. p (false ∷ t)) b (λ t. h (false ∷ t)) i) ∙ and-itself b

pub some_list-constant : (n : ℕ) (p : List Bool → Bool) (b : Bool) → ((t : List Bool) → p t ≡ b) → some_list n p ≡ b
some_list-constant zero p b h = h []
some_list-constant (suc n) p b h =
    (λ i. some_list-constant n (λ t. p (true ∷ t)) b (λ t. h (true ∷ t)) i || some_list-constant n (λ t. p (false ∷ t)) b (λ t. h (false ∷ t)) i) ∙ or-itself b
