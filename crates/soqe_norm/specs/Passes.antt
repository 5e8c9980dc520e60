-- One pass over the signs of a predicate's atoms.
use Rattle.std.specs.Prelude.{ℕ, suc, Bool, cond, nat_lt, List, [], ◌∷◌, Option, Some, None}
use Rattle.soqe_norm.specs.declared.signs.SignPair.{SignPair}
use Rattle.soqe_norm.specs.declared.signs.Passed.{Passed}
use Rattle.soqe_norm.specs.Signs.{Signs}

-- the greatest number of 64 bits
abbrev pub greatest : ℕ
greatest = 18446744073709551615

-- a number, or the greatest of 64 bits where the number is greater
abbrev pub cap : ℕ → ℕ
cap n = cond (nat_lt n greatest) n greatest

-- a place, or the greatest number of 64 bits where the place is greater
abbrev pub capped : Option ℕ → Option ℕ
capped None = None
capped (Some n) = Some (cap n)

-- the pair as signs
abbrev pub signs_in : SignPair → Signs
signs_in s = record { pos = s.pos; neg = s.neg }

-- the next number
abbrev pub next : ℕ → ℕ
next n = cond (nat_lt n greatest) (suc n) greatest

-- the earlier place, or this one where the sign is here
abbrev pub note : Option ℕ → Bool → ℕ → Option ℕ
note (Some n) here place = Some n
note None here place = cond here (Some place) None

-- one more atom
abbrev pub noted : Passed → Signs → Passed
noted c s = record {
  seen = next c.seen;
  pos = note c.pos s.pos (next c.seen);
  neg = note c.neg s.neg (next c.seen);
}

-- all these atoms, from left to right
abbrev pub scanned : Passed → List Signs → Passed
scanned c [] = c
scanned c (s ∷ rest) = scanned (noted c s) rest
