-- The number of a tidy binder: the least that is not taken. One of the first numbers is not, one more than there are taken ones;
-- and which numbers are taken depends on which variables are free, not on the order of their occurrences.
use Rattle.std.proofs.Common.{◌≡◌, ℕ, zero, suc, ◌+◌, ◌<◌, ◌≤◌, ⊎_elim, Bool, true, false, cond, eqb, not, ◌||◌, ◌&&◌, map, List, [], ◌∷◌, ◌++◌, length, length-append, refl, sym, ◌∙◌, ap, subst, arith}
use Rattle.std.specs.List.{list_any}
use Rattle.std.proofs.lemmas.List.{length-map}
use Rattle.std.proofs.lemmas.List.Folds.{list_any-append}
use Rattle.std.proofs.lemmas.Bool.{cases_lt, eqb-true, or_cases, or_left, or_right, both_ways}
use Rattle.soqe_term.specs.declared.term.Var.{Var}
use Rattle.soqe_term.specs.Occurs.{first_from}
use Rattle.soqe_number.specs.Unused.{member}
use Rattle.soqe_number.proofs.Choices.{by_cases, bool_cases, or_none_second}
use Rattle.soqe_number.proofs.Equalities.{eqb_sym}
use Rattle.soqe_number.proofs.Pigeons.{few_numbers, next_too}
use Rattle.soqe_form.specs.declared.form.Form.{Form}
use Rattle.soqe_form.specs.Free.{free}
use Rattle.soqe_form.specs.FreeVars.{others, free_occurrences, is_among}
use Rattle.soqe_number.specs.Marks.{IsLeastWithout}
use Rattle.soqe_tidy.specs.Numbers.{new_numbers}
use Rattle.soqe_tidy.specs.Tidy.{is_taken, tidy_number}
use Rattle.soqe_form.proofs.FreeVariables.{is_among-free_occurrences}
use Rattle.soqe_form.proofs.Numbers.{least-one}

-- ---- the first number that passes a test

first_from-below : (p : ℕ → Bool) (i k m : ℕ) → i ≤ m → m < first_from p i k → p m ≡ false
first_from-below p i zero m a b = absurd (omega arith)
first_from-below p i (suc k) m a b =
    by_cases (λ n. m < n → p m ≡ false) (p i) i (first_from p (suc i) k) (λ e l. absurd (omega arith))
    (λ e l. ⊎_elim (λ lt. first_from-below p (suc i) k m (omega arith) l) (λ le. let same : m ≡ i = omega arith in ap p same ∙ e) (cases_lt i m)) b

first_from-at : (p : ℕ → Bool) (i k : ℕ) → first_from p i k < i + k → p (first_from p i k) ≡ true
first_from-at p i zero h = absurd (omega arith)
first_from-at p i (suc k) h =
    by_cases (λ n. n < i + suc k → p n ≡ true) (p i) i (first_from p (suc i) k) (λ e l. e) (λ e l. first_from-at p (suc i) k (omega arith)) h

pub from_not : (b : Bool) → not b ≡ true → b ≡ false
from_not true h = sym h
from_not false h = refl

from_not_false : (b : Bool) → not b ≡ false → b ≡ true
from_not_false true h = refl
from_not_false false h = sym h

-- of one more number than a list has items, the first that the list lacks is the least that it lacks
pub first-lacking : (xs : List ℕ) (k : ℕ) → length xs ≤ k → IsLeastWithout (λ n. member n xs) (first_from (λ n. not (member n xs)) 0 k)
first-lacking xs k len =
    let n : ℕ = first_from (λ n. not (member n xs)) 0 k in
    let below : (m : ℕ) → m < n → member m xs ≡ true = λ m l. from_not_false (member m xs) (first_from-below (λ n. not (member n xs)) 0 k m (omega arith) l) in
    record {
      fails = ⊎_elim (λ lt. from_not (member n xs) (first_from-at (λ n. not (member n xs)) 0 k (omega arith)))
          (λ le. bool_cases (λ q. member n xs ≡ q → q ≡ false) (member n xs)
          (λ o e. let more = few_numbers (suc n) xs (next_too n xs below e) in absurd (omega arith)) (λ o e. refl) refl)
          (cases_lt n k);
      below = below;
    }

-- ---- the numbers that are taken

any-mapped : (r : ℕ → ℕ) (n : ℕ) (ys : List Var) → list_any (λ y. eqb n (r y.num)) ys ≡ member n (new_numbers r ys)
any-mapped r n [] = refl
any-mapped r n (y ∷ ys) = ap (λ b. eqb n (r y.num) || b) (any-mapped r n ys)

others-step : (b : Bool) (y : Var) (zs : List Var) → length (cond (not b) (y ∷ zs) zs) ≤ suc (length zs)
others-step true y zs = omega arith
others-step false y zs = omega arith

length-others : (x : ℕ) (ys : List Var) → length (others x ys) ≤ length ys
length-others x [] = omega arith
length-others x (y ∷ ys) = let step = others-step (eqb y.num x) y (others x ys) in let rest = length-others x ys in omega arith

-- all that are taken, in a list
abbrev pub taken_numbers : List ℕ → (ℕ → ℕ) → ℕ → Form → List ℕ
taken_numbers keep r x f = keep ++ new_numbers r (others x (free_occurrences f))

taken-listed : (keep : List ℕ) (r : ℕ → ℕ) (x : ℕ) (f : Form) → is_taken keep r x f ≡ (λ n. member n (taken_numbers keep r x f))
taken-listed keep r x f =
    λ i n. (ap (λ b. member n keep || b) (any-mapped r n (others x (free_occurrences f)))
    ∙ sym (list_any-append (λ m. eqb n m) keep (new_numbers r (others x (free_occurrences f))))) i

-- the number of a tidy binder is the least that is not taken
pub tidy_number-least : (keep : List ℕ) (r : ℕ → ℕ) (x : ℕ) (f : Form) → IsLeastWithout (is_taken keep r x f) (tidy_number keep r x f)
tidy_number-least keep r x f =
    let ys : List Var = others x (free_occurrences f) in
    let few : length (taken_numbers keep r x f) ≤ length keep + length (free_occurrences f) =
    omega (arith, length-append keep (new_numbers r ys), length-map ys (λ (y : Var). r y.num), length-others x (free_occurrences f)) in
    subst (λ q. IsLeastWithout q (first_from (λ n. not (q n)) 0 (length keep + length (free_occurrences f)))) (sym (taken-listed keep r x f))
    (first-lacking (taken_numbers keep r x f) (length keep + length (free_occurrences f)) few)

-- ---- what a test finds among numbers

finds : (q : ℕ → Bool) (ns : List ℕ) (m : ℕ) → member m ns ≡ true → q m ≡ true → list_any q ns ≡ true
finds q [] m h e = h
finds q (n ∷ ns) m h e =
    ⊎_elim (λ same. or_left (q n) (list_any q ns) (ap q (sym (eqb-true m n same)) ∙ e))
    (λ there. or_right (q n) (list_any q ns) (finds q ns m there e)) (or_cases (eqb m n) (member m ns) h)

among-nums : (n : ℕ) (ys : List Var) → member n (map (λ y. y.num) ys) ≡ is_among ys n
among-nums n [] = refl
among-nums n (y ∷ ys) = ap (λ b. eqb n y.num || b) (among-nums n ys)

others-any : (b q : Bool) (rest : Bool) (p : Var → Bool) (y : Var) (zs : List Var) → p y ≡ q → list_any p zs ≡ rest → list_any p (cond (not b) (y ∷ zs) zs) ≡ ((not b && q) || rest)
others-any true q rest p y zs e h = h
others-any false q rest p y zs e h = λ i. e i || h i

any-others : (q : ℕ → Bool) (x : ℕ) (ys : List Var) → list_any (λ y. q y.num) (others x ys) ≡ list_any (λ m. not (eqb m x) && q m) (map (λ y. y.num) ys)
any-others q x [] = refl
any-others q x (y ∷ ys) = others-any (eqb y.num x) (q y.num) (list_any (λ m. not (eqb m x) && q m) (map (λ y. y.num) ys)) (λ y. q y.num) y (others x ys) refl (any-others q x ys)

-- the least number that is neither kept nor that of another free variable is the tidy one
pub tidy_number-is : (keep : List ℕ) (r : ℕ → ℕ) (x : ℕ) (f : Form) (n : ℕ)
    → IsLeastWithout (λ m. member m keep || member m (new_numbers r (others x (free_occurrences f)))) n → n ≡ tidy_number keep r x f
tidy_number-is keep r x f n least =
    least-one (is_taken keep r x f) n (tidy_number keep r x f)
    (subst (λ p. IsLeastWithout p n) (λ i m. member m keep || sym (any-mapped r m (others x (free_occurrences f))) i) least) (tidy_number-least keep r x f)

-- ---- what is not taken

-- the new number of another free variable is not that of the binder
pub tidy_number-apart : (keep : List ℕ) (r : ℕ → ℕ) (x : ℕ) (f : Form) (m : ℕ) → free m f ≡ true → eqb m x ≡ false → eqb (r m) (tidy_number keep r x f) ≡ false
tidy_number-apart keep r x f m h e =
    let n : ℕ = tidy_number keep r x f in
    let ys : List Var = free_occurrences f in
    let none : list_any (λ y. eqb n (r y.num)) (others x ys) ≡ false =
    or_none_second (member n keep) (list_any (λ y. eqb n (r y.num)) (others x ys)) (tidy_number-least keep r x f).fails in
    let there : member m (map (λ y. y.num) ys) ≡ true = among-nums m ys ∙ is_among-free_occurrences m f ∙ h in
    bool_cases (λ b. eqb (r m) n ≡ b → b ≡ false) (eqb (r m) n)
    (λ p q. absurd (both_ways (list_any (λ y. eqb n (r y.num)) (others x ys)) none
    (any-others (λ k. eqb n (r k)) x ys ∙ finds (λ k. not (eqb k x) && eqb n (r k)) (map (λ y. y.num) ys) m there (λ i. not (e i) && (eqb_sym n (r m) ∙ q) i))))
    (λ p q. refl) refl
