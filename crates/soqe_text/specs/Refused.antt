-- Where a text is refused.
use Rattle.std.specs.Prelude.{ℕ, Result, Err}
use Rattle.soqe_text.specs.declared.refused.Refused.{Refused}
use Rattle.soqe_text.specs.declared.refused.Refused.TheVariants as refused

-- what holds of the place of a refusal
abbrev pub OnRefusedAt : {T : Type 0} → Result T Refused → (ℕ → Type 0) → Type 0
OnRefusedAt (Err (refused.At at)) P = P at
OnRefusedAt _ P = Unit {0}
