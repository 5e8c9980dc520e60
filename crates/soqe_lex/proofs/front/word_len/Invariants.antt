use Rattle.std.proofs.Common.{◌≡◌, ℕ, ◌<◌, get_or, true}
use Rattle.soqe_name.specs.Names.{is_word}
use Rattle.soqe_lex.proofs.front.word_len.Given as goal

abbrev pub invariant-loop-n : goal.invariant-loop-n
invariant-loop-n l = (k : ℕ) → k < l.n → is_word (get_or l.bytes k 0) ≡ true
