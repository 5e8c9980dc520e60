use Rattle.std.proofs.Common.{Some, None, sym, ◌∙◌, ap, subst}
use Rattle.std.proofs.lemmas.Result.{IfOk-weaker}
use Rattle.soqe_flow.specs.declared.blocks.BlockEnd.TheVariants as block
use Rattle.soqe_flow.specs.Ordered.{stands_with}
use Rattle.soqe_flow.specs.Running.{HasRun, Leads, WritesFirst}
use Rattle.soqe_flow.proofs.Leading.{leads-first, run-bare}
use Rattle.soqe_flow.proofs.blocks.run_blocks.Goals as goal

pub returns-in-None : goal.returns-in-None
returns-in-None c =
    let keep = c.args.keep.now in
    let w = c.args.wanted in
    let start = c.in_ok-start.start in
    let first = subst (λ r. WritesFirst keep w start c.new-lines.result c.write_first.new.lines r) c.in-None.is
    (subst (λ f. WritesFirst keep w f c.new-lines.result c.write_first.new.lines c.in_ok-write_first.field-0) c.get.ensures c.in_ok-write_first.ensures) in
    IfOk-weaker c.without_blocks.result _ _
    (λ run h. subst (λ g. HasRun keep w g run.lines run.stop) c.in_ok-start.ensures
    (subst (HasRun keep w start run.lines) (sym h.1) (subst (λ ls. HasRun keep w start ls None) (sym h.0) (run-bare keep w start first.0))))
    c.without_blocks.ensures

pub returns-in_ok-lines-in-Some-Closed : goal.returns-in_ok-lines-in-Some-Closed
returns-in_ok-lines-in-Some-Closed c =
    let keep = c.args.keep.now in
    let w = c.args.wanted in
    let start = c.in_ok-start.start in
    let place = c.in-Some-Closed.place in
    let part = c.in-Some-Closed.part in
    let steps = c.write_first.new.lines in
    let any = subst (λ r. WritesFirst keep w start c.new-lines.result steps r) (c.in-Some-Closed.is ∙ ap Some c.in-Some-Closed.field-0-is)
    (subst (λ f. WritesFirst keep w f c.new-lines.result steps c.in_ok-write_first.field-0) c.get.ensures c.in_ok-write_first.ensures) in
    let first = subst (λ old. WritesFirst keep w start old steps (Some (block.Closed place part))) c.new-lines.ensures any in
    let stands = c.in_ok-now-in-Some-Closed.ensures ∙ ap (λ f. stands_with keep f place part) c.get-in-Some-Closed.ensures in
    let leads = subst (Leads keep w start c.in_ok-lines-in-Some-Closed.lines) (sym stands)
    (subst (λ ls. Leads keep w start ls (stands_with keep start place part)) (sym c.in_ok-lines-in-Some-Closed.ensures) (leads-first keep w start place part steps first)) in
    IfOk-weaker c.go_on.result _ _ (λ run h. subst (λ g. HasRun keep w g run.lines run.stop) c.in_ok-start.ensures (h start leads)) c.go_on.ensures
