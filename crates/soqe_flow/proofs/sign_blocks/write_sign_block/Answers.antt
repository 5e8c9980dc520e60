use Rattle.std.proofs.Common.{◌≡◌, Some, sym, ◌∙◌}
use Rattle.soqe_form.specs.Found.{seen}
use Rattle.soqe_norm.specs.Valued.{value_for}
use Rattle.soqe_flow.proofs.Leading.{writes-sign, writes-mixed}
use Rattle.soqe_flow.proofs.sign_blocks.write_sign_block.Goals as goal

pub returns-in_ok-stop-in-None : goal.returns-in_ok-stop-in-None
returns-in_ok-stop-in-None c f h =
    writes-mixed c.args.keep.now f c.args.lines.now c.write_mixed.new.lines (seen c.args.block) c.in_ok-stop-in-None.stop h
    c.in_ok-stop-in-None.ensures.places c.in_ok-stop-in-None.ensures.lines

pub returns-in_ok-part-in-Some : goal.returns-in_ok-part-in-Some
returns-in_ok-part-in-Some c f h =
    let value : value_for (seen c.args.block) ≡ Some c.in-Some.value = sym c.value_for.ensures ∙ c.in-Some.is in
    writes-sign c.args.keep.now f c.in_ok-part-in-Some.part c.args.lines.now c.write_sign.new.lines (seen c.args.block) c.in-Some.value h value
    c.in_ok-part-in-Some.ensures.lines c.in_ok-part-in-Some.ensures.part
