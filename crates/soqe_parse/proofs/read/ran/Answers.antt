use Rattle.std.proofs.Common.{◌≡◌, ◌∙◌, sym, ap}
use Rattle.soqe_lex.specs.declared.token.TokenKind.TheVariants as kind
use Rattle.soqe_parse.specs.Items.{Between, Dead, step}
use Rattle.soqe_parse.specs.Stages.{declared_of, stage_of}
use Rattle.soqe_parse.proofs.Staged.{declared_none, goes-on}
use Rattle.soqe_parse.proofs.Found.{dies}
use Rattle.soqe_parse.proofs.read.ran.Goals as goal

pub loop-n-init : goal.loop-n-init
loop-n-init c = ap Between (ap declared_of c.requires.none ∙ declared_none)

pub returns-in-Err-Dead : goal.returns-in-Err-Dead
returns-in-Err-Dead c =
    let dead : step (stage_of c.loop-n.items c.loop-n.stage) c.piece_of.result ≡ Dead = rw c.in-Err-Dead.field-0-is at c.in-Err-Dead.ensures in
    dies c.args.bytes.now c.args.tokens.now c.loop-n.n (record { kind = kind.Ordinary; start = 0; end = 0 }) c.loop-n.items c.loop-n.stage c.loop-n-test.true c.loop-n.invariant
    (ap (step (stage_of c.loop-n.items c.loop-n.stage)) (sym c.piece_of.ensures) ∙ dead)

pub loop-n-preserved : goal.loop-n-preserved
loop-n-preserved c =
    goes-on c.args.bytes.now c.args.tokens.now c.loop-n.n (record { kind = kind.Ordinary; start = 0; end = 0 }) (stage_of c.loop-n.items c.loop-n.stage)
    (stage_of c.next_stage.new.items c.in-Ok.after) c.loop-n-test.true c.loop-n.invariant
    (c.in-Ok.ensures ∙ ap (step (stage_of c.loop-n.items c.loop-n.stage)) c.piece_of.ensures)
