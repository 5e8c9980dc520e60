-- Functions of numbers that differ at one number.
use Rattle.std.specs.Prelude.{ℕ, eqb, cond}

-- a function of numbers, changed at one number
abbrev pub changed : {A : Type 0} → (ℕ → A) → ℕ → A → ℕ → A
changed f x v n = cond (eqb n x) v (f n)
