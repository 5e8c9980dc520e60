-- The sign of a guard and of a try as a truth value.
use Rattle.std.specs.Prelude.{Bool, true, false}
use Rattle.soqe_ack.specs.declared.steps.Sign.{Sign}
use Rattle.soqe_ack.specs.declared.steps.Sign.TheVariants.{Pos, Neg}

-- true for positive
abbrev pub is_pos : Sign → Bool
is_pos Pos = true
is_pos Neg = false
