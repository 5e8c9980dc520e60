-- A list that is gone through from its end on.
use Rattle.std.specs.Prelude.{ℕ, zero, suc, ◌≡◌, ◌<◌, ◌+◌, ◌-◌, List, [], ◌∷◌, length, drop, get_or, None, refl}
use Rattle.std.proofs.Common.{◌∙◌, ap, arith}
use Rattle.soqe_text.specs.Lookups.{entered}

module _ {X : Type 0} where
  drop_at : (xs : List X) (m : ℕ) (d : X) → m < length xs → drop m xs ≡ get_or xs m d ∷ drop (suc m) xs
  drop_at [] m d lt = absurd (omega (arith, lt))
  drop_at (x ∷ xs) zero d lt = refl
  drop_at (x ∷ xs) (suc m) d lt = drop_at xs m d (omega (arith, lt))

  -- behind n items at the end, one more
  pub one_before : (xs : List X) (n : ℕ) (d : X) → n < length xs → drop (length xs - (n + 1)) xs ≡ get_or xs (length xs - 1 - n) d ∷ drop (length xs - n) xs
  one_before xs n d lt =
      let a : length xs - (n + 1) ≡ length xs - 1 - n = omega (arith, lt) in
      let b : suc (length xs - 1 - n) ≡ length xs - n = omega (arith, lt) in
      let within : length xs - 1 - n < length xs = omega (arith, lt) in
      ap (λ m. drop m xs) a ∙ drop_at xs (length xs - 1 - n) d within ∙ ap (λ m. get_or xs (length xs - 1 - n) d ∷ drop m xs) b

  -- at the end there is nothing
  pub none_before : (xs : List X) → drop (length xs - 0) xs ≡ []
  none_before xs = let e : length xs - 0 ≡ length xs = omega arith in ap (λ m. drop m xs) e ∙ drop_all xs
    where
      drop_all : (xs : List X) → drop (length xs) xs ≡ []
      drop_all [] = refl
      drop_all (x ∷ xs) = drop_all xs

  -- and all of it in the end
  pub all_before : (xs : List X) → drop (length xs - length xs) xs ≡ xs
  all_before xs = let e : length xs - length xs ≡ 0 = omega arith in ap (λ m. drop m xs) e

  -- no entries say nothing
  pub entered_none : entered {X = X} [] ≡ (λ n. None)
  unfolding entered
  entered_none = refl
