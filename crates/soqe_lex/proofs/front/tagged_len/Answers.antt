use Rattle.std.proofs.Common.{sym}
use Rattle.soqe_lex.proofs.Fronts.{plain, tag_number}
use Rattle.soqe_lex.proofs.front.tagged_len.Goals as goal

pub returns-then-not-is_tag : goal.returns-then-not-is_tag
returns-then-not-is_tag c = plain c.args.bytes.now c.number_len.result (sym c.if-not-is_tag.ensures) c.number_len.ensures

pub returns-in-Some : goal.returns-in-Some
returns-in-Some c = tag_number c.args.bytes.now c.in-Some.n (sym c.if-not-is_tag.ensures) c.in-Some.ensures
