use Rattle.std.proofs.Common.{◌<◌, Some, None, sym, ◌∙◌, ap, subst}
use Rattle.soqe_form.specs.Places.{count_blocks}
use Rattle.soqe_flow.specs.Running.{HasRun, Leads, WritesFirst}
use Rattle.soqe_flow.proofs.Leading.{leads-on, leads-stop, leads-result}
use Rattle.soqe_flow.proofs.blocks.go_on.Goals as goal

pub loop-now-init : goal.loop-now-init
loop-now-init c g k = k

pub returns-in-None : goal.returns-in-None
returns-in-None c g k =
    let keep = c.args.keep.now in
    let w = c.args.wanted in
    let first = subst (λ r. WritesFirst keep w c.loop-now.now c.loop-now.lines c.write_first.new.lines r) c.in-None.is
    (subst (λ f. WritesFirst keep w f c.loop-now.lines c.write_first.new.lines c.in_ok-write_first.field-0) c.get.ensures c.in_ok-write_first.ensures) in
    subst (λ ls. HasRun keep w g ls None) (sym c.in_ok-write_result-in-None.ensures)
    (leads-result keep w g c.loop-now.now c.write_first.new.lines first.0 (subst (λ ls. Leads keep w g ls c.loop-now.now) (sym first.1) (c.loop-now.invariant g k)))

pub loop-now-smaller : goal.loop-now-smaller
loop-now-smaller c =
    let keep = c.args.keep.now in
    let w = c.args.wanted in
    let first = subst (λ r. WritesFirst keep w c.loop-now.now c.loop-now.lines c.write_first.new.lines r) (c.in-Some-Closed.is ∙ ap Some c.in-Some-Closed.field-0-is)
    (subst (λ f. WritesFirst keep w f c.loop-now.lines c.write_first.new.lines c.in_ok-write_first.field-0) c.get.ensures c.in_ok-write_first.ensures) in
    subst (λ f. count_blocks f < count_blocks c.loop-now.now) (sym c.in_ok-now-in-Some-Closed.ensures) first.3

pub loop-now-preserved : goal.loop-now-preserved
loop-now-preserved c g k =
    let keep = c.args.keep.now in
    let w = c.args.wanted in
    let first = subst (λ r. WritesFirst keep w c.loop-now.now c.loop-now.lines c.write_first.new.lines r) (c.in-Some-Closed.is ∙ ap Some c.in-Some-Closed.field-0-is)
    (subst (λ f. WritesFirst keep w f c.loop-now.lines c.write_first.new.lines c.in_ok-write_first.field-0) c.get.ensures c.in_ok-write_first.ensures) in
    subst (Leads keep w g c.write_first.new.lines) (sym c.in_ok-now-in-Some-Closed.ensures)
    (leads-on keep w g c.loop-now.now c.in-Some-Closed.place c.in-Some-Closed.part c.loop-now.lines c.write_first.new.lines (c.loop-now.invariant g k) first)

pub returns-in-Some-Stopped : goal.returns-in-Some-Stopped
returns-in-Some-Stopped c g k =
    let keep = c.args.keep.now in
    let w = c.args.wanted in
    let first = subst (λ r. WritesFirst keep w c.loop-now.now c.loop-now.lines c.write_first.new.lines r) (c.in-Some-Stopped.is ∙ ap Some c.in-Some-Stopped.field-0-is)
    (subst (λ f. WritesFirst keep w f c.loop-now.lines c.write_first.new.lines c.in_ok-write_first.field-0) c.get.ensures c.in_ok-write_first.ensures) in
    leads-stop keep w g c.loop-now.now c.in-Some-Stopped.stop c.loop-now.lines c.write_first.new.lines (c.loop-now.invariant g k) first
