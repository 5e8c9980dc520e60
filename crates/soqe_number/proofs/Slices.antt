-- Items of a list by their places, and fronts of it.
use Rattle.std.specs.Prelude.{ℕ, zero, suc, ◌≡◌, ◌<◌, ◌+◌, List, [], ◌∷◌, ◌++◌, length, take, Option, Some, None, slice_get, refl}
use Rattle.std.proofs.Common.{sym, ◌∙◌, ap, arith}
use Rattle.std.proofs.lemmas.List.{take_more}
use Rattle.std.proofs.lemmas.Option.{none-some, slice_get_within, get_or_from_slice_get}

module _ {X : Type 0} where
  -- an item of the first list is there in both
  pub slice_get-append : (xs ys : List X) (i : ℕ) (x : X) → slice_get xs i ≡ Some x → slice_get (xs ++ ys) i ≡ Some x
  slice_get-append [] ys i x h = absurd (none-some x h)
  slice_get-append (y ∷ xs) ys zero x h = h
  slice_get-append (y ∷ xs) ys (suc i) x h = slice_get-append xs ys i x h

  pub slice_get-last : (xs : List X) (x : X) → slice_get (xs ++ x ∷ []) (length xs) ≡ Some x
  slice_get-last [] x = refl
  slice_get-last (y ∷ xs) x = slice_get-last xs x

  -- an item of a front is the item of the list, in front of its end
  pub slice_get-take : (n : ℕ) (xs : List X) (i : ℕ) (x : X) → slice_get (take n xs) i ≡ Some x → (i < n) × (slice_get xs i ≡ Some x)
  slice_get-take zero xs i x h = absurd (none-some x h)
  slice_get-take (suc n) [] i x h = absurd (none-some x h)
  slice_get-take (suc n) (y ∷ xs) zero x h = (omega arith, h)
  slice_get-take (suc n) (y ∷ xs) (suc i) x h = let rest = slice_get-take n xs i x h in (omega (arith, rest.0), rest.1)

  -- a front and the item behind it
  pub take-push : (n : ℕ) (xs : List X) (x : X) → slice_get xs n ≡ Some x → take n xs ++ x ∷ [] ≡ take (n + 1) xs
  take-push n xs x h =
      sym (take_more xs n x (slice_get_within xs n x h) ∙ ap (λ y. take n xs ++ y ∷ []) (get_or_from_slice_get xs n x x h))
