-- Counting the numbers in scope.
use Rattle.std.specs.Prelude.{ℕ, suc, ◌≡◌, ◌+◌, ◌-◌, Bool, true, false, cond, eqb, nat_lt, ◌||◌, List, [], ◌∷◌, ◌++◌, length, take, reverse, slice_get, Option, Some, refl}
use Rattle.std.proofs.Common.{sym, ◌∙◌, ap, arith}
use Rattle.std.proofs.lemmas.Bool.{eq-eqb, eqb-true}
use Rattle.std.proofs.lemmas.List.{reverse-append, take_more}
use Rattle.std.proofs.lemmas.Option.{get_or_from_slice_get, slice_get_within}
use Rattle.std.proofs.Math.Seq.{take-length}
use Rattle.std.specs.List.{list_any}
use Rattle.std.specs.Option.{unwrap_or}
use Rattle.soqe_number.specs.Updates.{changed}
use Rattle.soqe_number.proofs.Equalities.{eqb_sym}
use Rattle.soqe_text.specs.Scope.{times, IsCounted}

positive : (m : ℕ) → nat_lt 0 (suc m) ≡ true
positive m = grind arith

-- a number is in scope where it stands in the list
pub any_times : (n : ℕ) (scope : List ℕ) → list_any (λ k. eqb k n) scope ≡ nat_lt 0 (times n scope)
any_times n [] = refl
any_times n (k ∷ ks) = by (eqb k n) (any_times n ks)
  where
    by : (b : Bool) → list_any (λ k. eqb k n) ks ≡ nat_lt 0 (times n ks) → (b || list_any (λ k. eqb k n) ks) ≡ nat_lt 0 (cond b (suc (times n ks)) (times n ks))
    by true h = sym (positive (times n ks))
    by false h = h

add_one : (m : ℕ) → m + 1 ≡ suc m
add_one m = omega arith

less_one : (m : ℕ) → suc m - 1 ≡ m
less_one m = omega arith

-- one more number in scope
pub IsCounted-entered : (counts : ℕ → Option ℕ) (scope : List ℕ) (num count : ℕ) → IsCounted counts scope → count ≡ unwrap_or (counts num) 0 + 1
    → IsCounted (changed counts num (Some count)) (num ∷ scope)
IsCounted-entered counts scope num count h is n = by (eqb num n) refl
  where
    here : (b : Bool) → eqb num n ≡ b → unwrap_or (changed counts num (Some count) n) 0 ≡ unwrap_or (cond b (Some count) (counts n)) 0
    here b e = ap (λ c. unwrap_or (cond c (Some count) (counts n)) 0) (eqb_sym n num ∙ e)

    by : (b : Bool) → eqb num n ≡ b → unwrap_or (changed counts num (Some count) n) 0 ≡ cond b (suc (times n scope)) (times n scope)
    by true e = here true e ∙ is ∙ ap (λ m. m + 1) (h num) ∙ add_one (times num scope) ∙ ap (λ m. suc (times m scope)) (eqb-true num n e)
    by false e = here false e ∙ h n

-- the innermost number leaves the scope
pub IsCounted-left : (counts : ℕ → Option ℕ) (scope : List ℕ) (num count : ℕ) → IsCounted counts (num ∷ scope) → count ≡ unwrap_or (counts num) 0 - 1
    → IsCounted (changed counts num (Some count)) scope
IsCounted-left counts scope num count h is n = by (eqb num n) refl (h n)
  where
    here : (b : Bool) → eqb num n ≡ b → unwrap_or (changed counts num (Some count) n) 0 ≡ unwrap_or (cond b (Some count) (counts n)) 0
    here b e = ap (λ c. unwrap_or (cond c (Some count) (counts n)) 0) (eqb_sym n num ∙ e)

    own : unwrap_or (counts num) 0 ≡ suc (times num scope)
    own = h num ∙ ap (λ b. cond b (suc (times num scope)) (times num scope)) (eq-eqb num num refl)

    by : (b : Bool) → eqb num n ≡ b → unwrap_or (counts n) 0 ≡ cond b (suc (times n scope)) (times n scope) → unwrap_or (changed counts num (Some count) n) 0 ≡ times n scope
    by true e at = here true e ∙ is ∙ ap (λ m. m - 1) own ∙ less_one (times num scope) ∙ ap (λ m. times m scope) (eqb-true num n e)
    by false e at = here false e ∙ at

-- the last of a list stands in front of its reverse
pub last_first : (xs : List ℕ) (x : ℕ) → slice_get xs (length xs - 1) ≡ Some x → reverse xs ≡ x ∷ reverse (take (length xs - 1) xs)
last_first xs x e =
    let within = slice_get_within xs (length xs - 1) x e in
    let all : length xs ≡ (length xs - 1) + 1 = omega (arith, within) in
    ap reverse (sym (take-length xs) ∙ ap (λ n. take n xs) all ∙ take_more xs (length xs - 1) x within
    ∙ ap (λ y. take (length xs - 1) xs ++ y ∷ []) (get_or_from_slice_get xs (length xs - 1) x x e))
    ∙ reverse-append (take (length xs - 1) xs) (x ∷ [])
