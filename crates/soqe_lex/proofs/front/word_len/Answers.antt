use Rattle.std.proofs.Common.{sym, arith, length}
use Rattle.std.proofs.lemmas.List.Sums.{prefix_len_is}
use Rattle.soqe_name.specs.Names.{is_word}
use Rattle.soqe_lex.proofs.front.word_len.Goals as goal

pub returns : goal.returns
returns c = sym (prefix_len_is is_word c.args.bytes.now (length c.args.bytes.now) 0 (omega arith) (λ k h. c.loop-n.invariant k (omega arith)) (λ h. absurd (omega arith)))
