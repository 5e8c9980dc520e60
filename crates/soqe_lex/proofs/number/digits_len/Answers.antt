use Rattle.std.proofs.Common.{◌∙◌, sym, arith, take, get_or}
use Rattle.std.specs.List.{list_all}
use Rattle.std.specs.Char.{is_ascii_digit}
use Rattle.std.proofs.lemmas.Bool.{and_from}
use Rattle.std.proofs.lemmas.List.Folds.{list_all_more}
use Rattle.std.proofs.lemmas.Int.Digits.{digits_value_more}
use Rattle.soqe_lex.proofs.Numbers.{stop_at_other, stop_at_value, stop_at_end, digit_plain}
use Rattle.soqe_lex.proofs.number.digits_len.Goals as goal

pub returns-then-not-is_ascii_digit : goal.returns-then-not-is_ascii_digit
returns-then-not-is_ascii_digit c = stop_at_other c.args.bytes.now c.loop-n.n c.loop-n.value c.requires.digit c.requires.nonzero c.loop-n.invariant.digits c.loop-n.invariant.value (omega arith) c.loop-n-test.true (sym c.if-not-is_ascii_digit.ensures.value)

pub returns-then-value-digit : goal.returns-then-value-digit
returns-then-value-digit c = stop_at_value c.args.bytes.now c.loop-n.n c.loop-n.value c.requires.digit c.requires.nonzero c.loop-n.invariant.digits c.loop-n.invariant.value (omega arith) c.loop-n-test.true (sym c.if-not-is_ascii_digit.ensures.value) (omega arith)

pub returns : goal.returns
returns c = stop_at_end c.args.bytes.now c.loop-n.n c.loop-n.value c.requires.digit c.requires.nonzero c.loop-n.invariant.digits c.loop-n.invariant.value (omega arith) (omega arith)

pub loop-n-preserved : goal.loop-n-preserved
loop-n-preserved c =
    let yes = sym c.if-not-is_ascii_digit.ensures.value in
    record {
      digits = list_all_more is_ascii_digit c.args.bytes.now c.loop-n.n 0 c.loop-n-test.true ∙ and_from (list_all is_ascii_digit (take c.loop-n.n c.args.bytes.now)) (is_ascii_digit (get_or c.args.bytes.now c.loop-n.n 0)) c.loop-n.invariant.digits yes;
      value = omega (arith, digits_value_more 10 c.args.bytes.now c.loop-n.n c.loop-n-test.true, digit_plain (get_or c.args.bytes.now c.loop-n.n 0) yes, c.from-digit.ensures, c.loop-n.invariant.value);
    }
