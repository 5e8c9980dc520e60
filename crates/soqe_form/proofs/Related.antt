-- Numbers that name the same below pairs of binders.
use Rattle.std.proofs.Common.{◌≡◌, ℕ, Bool, true, false, cond, eqb, ◌&&◌, ◌||◌, List, [], ◌∷◌, refl, ap}
use Rattle.std.proofs.lemmas.Bool.{eqb-true}
use Rattle.soqe_number.specs.Updates.{changed}
use Rattle.soqe_form.specs.Same.{related}

-- two functions give one value to the numbers that name the same
abbrev pub Relates : {A : Type 0} → List (ℕ × ℕ) → (ℕ → A) → (ℕ → A) → Type 0
Relates vs f g = (m n : ℕ) → related vs m n ≡ true → f m ≡ g n

-- where nothing is bound
pub relates-equal : {A : Type 0} (f : ℕ → A) → Relates [] f f
relates-equal f m n o = ap f (eqb-true m n o)

relates_step : {A : Type 0} (p q r : Bool) (v a b : A) → cond (p || q) (p && q) r ≡ true → (r ≡ true → a ≡ b) → cond p v a ≡ cond q v b
relates_step true true r v a b o h = refl
relates_step true false r v a b o h = let o : false ≡ true = o in cc
relates_step false true r v a b o h = let o : false ≡ true = o in cc
relates_step false false r v a b o h = h o

-- below a pair of binders that get one value
pub relates-under : {A : Type 0} (vs : List (ℕ × ℕ)) (x y : ℕ) (v : A) (f g : ℕ → A) → Relates vs f g → Relates ((x, y) ∷ vs) (changed f x v) (changed g y v)
relates-under vs x y v f g h m n o = relates_step (eqb m x) (eqb n y) (related vs m n) v (f m) (g n) o (h m n)
