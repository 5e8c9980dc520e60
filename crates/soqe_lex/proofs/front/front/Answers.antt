use Rattle.std.proofs.Common.{cond, Bool, sym, subst}
use Rattle.std.proofs.lemmas.Bool.{eq-eqb, ne_eqb}
use Rattle.soqe_lex.specs.declared.token.TokenKind.TheVariants.{Keyword, Ordinary}
use Rattle.soqe_lex.specs.Lexical.{IsLongest}
use Rattle.soqe_lex.proofs.Fronts.{word_longest, number_longest, tagged_longest, mark_longest}
use Rattle.soqe_lex.proofs.front.front.Goals as goal

pub returns-then-is_keyword : goal.returns-then-is_keyword
returns-then-is_keyword c =
    subst (λ (b : Bool). IsLongest c.args.bytes.now c.word_len-n.result (cond b Keyword Ordinary)) (sym c.if-is_keyword.ensures)
    (word_longest c.args.bytes.now c.word_len-n.result c.word_len-n.ensures c.requires (sym c.if-is_ascii_alphabetic.ensures.value))

pub returns-else-is_keyword : goal.returns-else-is_keyword
returns-else-is_keyword c =
    subst (λ (b : Bool). IsLongest c.args.bytes.now c.word_len-n.result (cond b Keyword Ordinary)) (sym c.if-is_keyword.ensures)
    (word_longest c.args.bytes.now c.word_len-n.result c.word_len-n.ensures c.requires (sym c.if-is_ascii_alphabetic.ensures.value))

pub returns-in-Some : goal.returns-in-Some
returns-in-Some c = number_longest c.args.bytes.now c.in-Some.n c.in-Some.ensures c.requires (sym c.if-is_ascii_alphabetic.ensures.value) (sym c.if-is_ascii_digit.ensures.value)

pub returns-in-Some-tagged_len : goal.returns-in-Some-tagged_len
returns-in-Some-tagged_len c =
    tagged_longest c.args.bytes.now c.in-Some-tagged_len.n c.in-Some-tagged_len.ensures c.requires (sym c.if-is_ascii_alphabetic.ensures.value) (sym c.if-is_ascii_digit.ensures.value)
    (eq-eqb _ 95 c.if-first-eq95.true)

pub returns-in-Some-mark_len : goal.returns-in-Some-mark_len
returns-in-Some-mark_len c =
    mark_longest c.args.bytes.now c.in-Some-mark_len.n c.in-Some-mark_len.ensures c.requires (sym c.if-is_ascii_alphabetic.ensures.value) (sym c.if-is_ascii_digit.ensures.value)
    (ne_eqb _ 95 c.if-first-eq95.false)
