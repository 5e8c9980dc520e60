-- How often numbers stand among the new numbers of variables below a binder.
use Rattle.std.proofs.Common.{◌≡◌, ℕ, ◌+◌, Bool, true, false, cond, eqb, not, List, [], ◌∷◌, refl, ◌∙◌, ap, arith}
use Rattle.soqe_term.specs.declared.term.Var.{Var}
use Rattle.soqe_number.specs.Updates.{changed}
use Rattle.soqe_number.proofs.Equalities.{eqb_sym}
use Rattle.soqe_form.specs.FreeVars.{others}
use Rattle.soqe_number.specs.Counts.{times}
use Rattle.soqe_uses.specs.Numbers.{numbers}
use Rattle.soqe_tidy.specs.Numbers.{new_numbers}

change_step : (b c d e : Bool) (m : ℕ) (y : Var) (l t : ℕ) (rs : List Var) (r : ℕ → ℕ) → b ≡ c → eqb m (r y.num) ≡ e → l ≡ cond d t 0 + times m (new_numbers r rs)
    → cond (cond b d e) 1 0 + l ≡ cond d (cond c 1 0 + t) 0 + times m (new_numbers r (cond (not b) (y ∷ rs) rs))
change_step true true true e m y l t rs r o p h =
    let h : l ≡ t + times m (new_numbers r rs) = h in let sum : 1 + l ≡ (1 + t) + times m (new_numbers r rs) = omega (arith, h) in sum
change_step true true false e m y l t rs r o p h =
    let h : l ≡ 0 + times m (new_numbers r rs) = h in let sum : 0 + l ≡ 0 + times m (new_numbers r rs) = omega (arith, h) in sum
change_step false false true e m y l t rs r o p h =
    let p : cond {A = ℕ} (eqb m (r y.num)) 1 0 ≡ cond e 1 0 = ap (λ q. cond q 1 0) p in
    let h : l ≡ t + times m (new_numbers r rs) = h in
    let sum : cond e 1 0 + l ≡ (0 + t) + (cond (eqb m (r y.num)) 1 0 + times m (new_numbers r rs)) = omega (arith, h, p) in sum
change_step false false false e m y l t rs r o p h =
    let p : cond {A = ℕ} (eqb m (r y.num)) 1 0 ≡ cond e 1 0 = ap (λ q. cond q 1 0) p in
    let h : l ≡ 0 + times m (new_numbers r rs) = h in
    let sum : cond e 1 0 + l ≡ 0 + (cond (eqb m (r y.num)) 1 0 + times m (new_numbers r rs)) = omega (arith, h, p) in sum
change_step true false d e m y l t rs r o p h = cc
change_step false true d e m y l t rs r o p h = cc

eqb_of : (b : Bool) (m n k : ℕ) → eqb m (cond b n k) ≡ cond b (eqb m n) (eqb m k)
eqb_of true m n k = refl
eqb_of false m n k = refl

-- below a binder of x its occurrences count for its new number n
pub times-changed : (m : ℕ) (r : ℕ → ℕ) (x n : ℕ) (ys : List Var)
    → times m (new_numbers (changed r x n) ys) ≡ cond (eqb m n) (times x (numbers ys)) 0 + times m (new_numbers r (others x ys))
times-changed m r x n [] = none (eqb m n)
  where
    none : (b : Bool) → ◌≡◌ {A = ℕ} 0 (cond b 0 0 + 0)
    none true = refl
    none false = refl
times-changed m r x n (y ∷ ys) =
    ap (λ q. cond q 1 0 + times m (new_numbers (changed r x n) ys)) (eqb_of (eqb y.num x) m n (r y.num))
    ∙ change_step (eqb y.num x) (eqb x y.num) (eqb m n) (eqb m (r y.num)) m y (times m (new_numbers (changed r x n) ys)) (times x (numbers ys)) (others x ys) r
    (eqb_sym y.num x) refl (times-changed m r x n ys)
