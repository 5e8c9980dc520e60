use Rattle.std.proofs.Common.{◌≡◌, ℕ, ◌<◌, get_or, true}
use Rattle.soqe_lex.specs.Lexical.{is_remark}
use Rattle.soqe_lex.proofs.lexer.comment_len.Given as goal

abbrev pub invariant-loop-n : goal.invariant-loop-n
invariant-loop-n l = (k : ℕ) → k < l.n → is_remark (get_or l.bytes k 0) ≡ true
