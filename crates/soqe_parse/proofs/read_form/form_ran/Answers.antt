use Rattle.std.proofs.Common.{◌≡◌, ◌∙◌, sym, ap}
use Rattle.soqe_lex.specs.declared.token.TokenKind.TheVariants as kind
use Rattle.soqe_parse.specs.Machine.{Want, Dead, step}
use Rattle.soqe_parse.specs.Stack.{stack_of, state_of}
use Rattle.soqe_parse.proofs.Stacks.{stack_of_none}
use Rattle.soqe_parse.proofs.FormFound.{dies, goes-on}
use Rattle.soqe_parse.proofs.read_form.form_ran.Goals as goal

pub loop-n-init : goal.loop-n-init
loop-n-init c = ap Want (ap stack_of c.requires.none ∙ stack_of_none)

pub returns-in-Err-Dead : goal.returns-in-Err-Dead
returns-in-Err-Dead c =
    let dead : step (state_of c.loop-n.stack.items c.loop-n.mode) c.piece_of.result ≡ Dead = rw c.in-Err-Dead.field-0-is at c.in-Err-Dead.ensures in
    dies c.args.bytes.now c.args.tokens.now c.loop-n.n (record { kind = kind.Ordinary; start = 0; end = 0 }) c.loop-n.stack.items c.loop-n.mode c.loop-n-test.true c.loop-n.invariant
    (ap (step (state_of c.loop-n.stack.items c.loop-n.mode)) (sym c.piece_of.ensures) ∙ dead)

pub loop-n-preserved : goal.loop-n-preserved
loop-n-preserved c =
    goes-on c.args.bytes.now c.args.tokens.now c.loop-n.n (record { kind = kind.Ordinary; start = 0; end = 0 }) (state_of c.loop-n.stack.items c.loop-n.mode)
    (state_of c.stepped.new.stack.items c.in-Ok.after) c.loop-n-test.true c.loop-n.invariant
    (c.in-Ok.ensures ∙ ap (step (state_of c.loop-n.stack.items c.loop-n.mode)) c.piece_of.ensures)
