-- Numbers below 2 ^ 64.
use Rattle.std.specs.Prelude.{ℕ, ◌^◌, cond, nat_lt, Option, Some, None}

-- a number, where it is below 2 ^ 64
abbrev pub below_word : ℕ → Option ℕ
below_word n = cond (nat_lt n (2 ^ 64)) (Some n) None
