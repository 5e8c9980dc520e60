use Rattle.std.proofs.Common.{◌+◌, List, None, Some, sym, subst, arith}
use Rattle.std.proofs.lemmas.List.{append-nil}
use Rattle.soqe_lex.specs.declared.token.Token.{Token}
use Rattle.soqe_lex.specs.Lexical.{Lexed}
use Rattle.soqe_lex.proofs.Lexing.{SoFar, after_blank, after_comment, after_token, at_fault, whole}
use Rattle.soqe_lex.proofs.Spanned.{within}
use Rattle.soqe_lex.proofs.lexer.lexemes.Goals as goal

pub loop-at-preserved-then-is_blank : goal.loop-at-preserved-then-is_blank
loop-at-preserved-then-is_blank c = record {
  within = omega arith;
  so_far = after_blank c.args.bytes.now c.loop-at.tokens c.loop-at.at c.loop-at-test.true c.loop-at.invariant.so_far (sym c.if-is_blank.ensures);
}

pub overflow_add-at-then-first-eq35 : goal.overflow_add-at-then-first-eq35
overflow_add-at-then-first-eq35 c =
    let a = after_comment c.args.bytes.now c.loop-at.tokens c.loop-at.at c.loop-at-test.true c.loop-at.invariant.so_far c.comment_len.result c.if-first-eq35.true c.comment_len.ensures in omega (arith, a.0)

pub loop-at-preserved-then-first-eq35 : goal.loop-at-preserved-then-first-eq35
loop-at-preserved-then-first-eq35 c =
    let a = after_comment c.args.bytes.now c.loop-at.tokens c.loop-at.at c.loop-at-test.true c.loop-at.invariant.so_far c.comment_len.result c.if-first-eq35.true c.comment_len.ensures in
    record { within = a.0; so_far = a.1 }

stopped : (c : goal.In_default) → Lexed 0 c.args.bytes.now c.loop-at.tokens (Some c.loop-at.at)
stopped c =
    subst (λ (x : List Token). Lexed 0 c.args.bytes.now x (Some c.loop-at.at)) (append-nil c.loop-at.tokens)
    (at_fault c.args.bytes.now c.loop-at.tokens c.loop-at.at c.loop-at-test.true c.loop-at.invariant.so_far (sym c.if-is_blank.ensures) c.if-first-eq35.false c.in_default.ensures)

pub returns-in_default-clause-lexed : goal.returns-in_default-clause-lexed
returns-in_default-clause-lexed c = stopped c

pub returns-in_default-clause-within : goal.returns-in_default-clause-within
returns-in_default-clause-within c = within c.args.bytes.now c.loop-at.tokens (Some c.loop-at.at) (stopped c)

pub loop-at-preserved : goal.loop-at-preserved
loop-at-preserved c =
    let a = after_token c.args.bytes.now c.loop-at.tokens c.loop-at.at c.loop-at-test.true c.loop-at.invariant.so_far c.in-Some.n c.in-Some.kind c.in-Some.ensures in
    record { within = a.0; so_far = subst (λ (x : List Token). SoFar c.args.bytes.now x (c.loop-at.at + c.in-Some.n)) (sym c.in_ok-push.ensures.ok) a.2 }

pub loop-at-smaller : goal.loop-at-smaller
loop-at-smaller c =
    let a = after_token c.args.bytes.now c.loop-at.tokens c.loop-at.at c.loop-at-test.true c.loop-at.invariant.so_far c.in-Some.n c.in-Some.kind c.in-Some.ensures in
    omega (arith, a.0, a.1)

pub returns-clause-lexed : goal.returns-clause-lexed
returns-clause-lexed c = whole c.args.bytes.now c.loop-at.tokens c.loop-at.at (omega arith) c.loop-at.invariant.so_far

pub returns-clause-within : goal.returns-clause-within
returns-clause-within c = within c.args.bytes.now c.loop-at.tokens None (whole c.args.bytes.now c.loop-at.tokens c.loop-at.at (omega arith) c.loop-at.invariant.so_far)
