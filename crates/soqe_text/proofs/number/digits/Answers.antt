use Rattle.std.proofs.Common.{◌∙◌, sym, ap, arith, take}
use Rattle.std.specs.Char.{is_ascii_digit}
use Rattle.std.specs.Str.Parse.{digits_value}
use Rattle.std.proofs.lemmas.Int.Digits.{digits_value_more}
use Rattle.std.proofs.lemmas.List.{take_all}
use Rattle.soqe_text.specs.Number.{below_word}
use Rattle.soqe_text.proofs.Numbers.{holds_at}
use Rattle.soqe_text.proofs.number.digits.Goals as goal

pub with_digit-value-requires : goal.with_digit-value-requires
with_digit-value-requires c = holds_at is_ascii_digit c.args.text.now c.loop-n.n c.loop-n-test.true c.requires

pub loop-n-preserved : goal.loop-n-preserved
loop-n-preserved c =
    c.with_digit-value.ensures (digits_value 10 (take c.loop-n.n c.args.text.now)) c.loop-n.invariant
    ∙ ap below_word (sym (digits_value_more 10 c.args.text.now c.loop-n.n c.loop-n-test.true))

pub returns : goal.returns
returns c = c.loop-n.invariant ∙ ap (λ xs. below_word (digits_value 10 xs)) (take_all c.loop-n.n c.args.text.now (omega arith))
