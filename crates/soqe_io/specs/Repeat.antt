use Rattle.std.specs.Prelude.{ℕ}
use Rattle.soqe_io.specs.declared.repeat.RepeatSource.{RepeatSource}

-- the byte that a `RepeatSource` gives
abbrev pub repeated_byte : RepeatSource → ℕ
repeated_byte s = s.byte
