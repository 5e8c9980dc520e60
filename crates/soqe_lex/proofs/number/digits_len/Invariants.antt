use Rattle.std.proofs.Common.{◌≡◌, true, take}
use Rattle.std.specs.List.{list_all}
use Rattle.std.specs.Char.{is_ascii_digit}
use Rattle.std.specs.Str.Parse.{digits_value}
use Rattle.soqe_lex.proofs.number.digits_len.Given as goal

abbrev pub invariant-loop-n : goal.invariant-loop-n
invariant-loop-n l = record { digits : list_all is_ascii_digit (take l.n l.bytes) ≡ true; value : l.value ≡ digits_value 10 (take l.n l.bytes) }
