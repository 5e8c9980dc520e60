-- What a place of a list holds, and that a place gets back what it had.
use Rattle.std.specs.Prelude.{ℕ, zero, suc, ◌≡◌, ◌≤◌, List, [], ◌∷◌, length, get_or, set, refl}
use Rattle.std.proofs.Common.{◌∙◌, ap, arith}
use Rattle.std.proofs.lemmas.List.{set-set, set-get_or, set_past}

module _ {X : Type 0} where
  -- behind the end nothing is written
  pub set_beyond : (xs : List X) (n : ℕ) (x : X) → length xs ≤ n → set xs n x ≡ xs
  set_beyond xs n x h = set_past xs n x h

  -- what was written is taken back
  pub restored : (xs : List X) (n : ℕ) (x old d : X) → old ≡ get_or xs n d → set (set xs n x) n old ≡ xs
  restored xs n x old d h = set-set xs n x old ∙ ap (set xs n) h ∙ set-get_or xs n d

  -- behind the end there is nothing
  pub get_beyond : (xs : List X) (n : ℕ) (d : X) → length xs ≤ n → get_or xs n d ≡ d
  get_beyond [] zero d h = refl
  get_beyond [] (suc n) d h = refl
  get_beyond (x ∷ xs) zero d h = absurd (omega (arith, h))
  get_beyond (x ∷ xs) (suc n) d h = get_beyond xs n d (omega (arith, h))
