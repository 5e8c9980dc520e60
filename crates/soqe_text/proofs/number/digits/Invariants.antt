use Rattle.std.proofs.Common.{◌≡◌, take}
use Rattle.std.specs.Str.Parse.{digits_value}
use Rattle.soqe_text.specs.Number.{below_word}
use Rattle.soqe_text.proofs.number.digits.Given as goal

abbrev pub invariant-loop-n : goal.invariant-loop-n
invariant-loop-n l = l.value ≡ below_word (digits_value 10 (take l.n l.text))
