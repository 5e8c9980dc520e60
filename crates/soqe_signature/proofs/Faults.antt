-- Which sort of a kind is refused.
use Rattle.std.specs.Prelude.{ℕ, ◌≡◌, Bool, true, false, cond, nat_lt, List, [], ◌∷◌, ◌++◌, Option, Some, None, refl}
use Rattle.std.proofs.Common.{sym}
use Rattle.std.proofs.lemmas.Option.{none-some}
use Rattle.soqe_signature.specs.Declares.{first_unknown}

-- the first of two lists, or else the second, has the first unknown sort
pub first_unknown-append : (n : ℕ) (xs ys : List ℕ) (r : Option ℕ) → first_unknown n xs ≡ r
    → first_unknown n (xs ++ ys) ≡ elim r [ None ↦ first_unknown n ys | Some s ↦ Some s ]
first_unknown-append n [] ys None h = refl
first_unknown-append n [] ys (Some s) h = absurd (none-some s h)
first_unknown-append n (x ∷ xs) ys r h = by (nat_lt x n) r h (first_unknown-append n xs ys)
  where
    by : (b : Bool) (r : Option ℕ) → cond b (first_unknown n xs) (Some x) ≡ r
        → ((r : Option ℕ) → first_unknown n xs ≡ r → first_unknown n (xs ++ ys) ≡ elim r [ None ↦ first_unknown n ys | Some s ↦ Some s ])
        → cond b (first_unknown n (xs ++ ys)) (Some x) ≡ elim r [ None ↦ first_unknown n ys | Some s ↦ Some s ]
    by true r h rest = rest r h
    by false None h rest = absurd (none-some x (sym h))
    by false (Some s) h rest = h
