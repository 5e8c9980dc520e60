use Rattle.std.proofs.Common.{◌≡◌, ◌++◌, ◌∙◌, ap, subst}
use Rattle.soqe_dls.specs.declared.elimination.DlsEnd.TheVariants as end
use Rattle.soqe_dls.specs.Runs.{IsAnswer}
use Rattle.soqe_form.specs.Found.{seen}
use Rattle.soqe_flow.specs.Ordered.{normal, cases_lines}
use Rattle.soqe_flow.proofs.Leading.{writes-cases, writes-lost}
use Rattle.soqe_flow.proofs.cases_blocks.write_cases_block.Goals as goal

pub returns-in_ok-write_close-in-Done : goal.returns-in_ok-write_close-in-Done
returns-in_ok-write_close-in-Done c f h =
    let keep = c.args.keep.now in
    let b = seen c.args.block in
    let made : c.in_ok-normal.normal ≡ normal keep b = c.in_ok-normal.ensures in
    let given : c.get.result.now ≡ normal keep b = c.get.ensures ∙ made in
    let answer : IsAnswer keep b.pred (normal keep b) (end.Done c.in-Done.steps c.in-Done.answer) =
    subst (λ r. IsAnswer keep b.pred (normal keep b) r) c.in-Done.is (subst (λ g. IsAnswer keep b.pred g c.in_ok-steps.field-0) given c.in_ok-steps.ensures.exact) in
    writes-cases keep f c.in-Done.answer c.in_ok-part-in-Done.part c.args.lines.now c.write_cases.new.lines c.write_close.new.lines b c.in-Done.steps
    h answer
    (c.in_ok-write_cases-in-Done.ensures ∙ ap (λ g. c.args.lines.now ++ cases_lines b g c.in-Done.steps) made)
    c.in_ok-write_close-in-Done.ensures
    c.in_ok-part-in-Done.ensures

pub returns-in_ok-write_lost-in-NotReached : goal.returns-in_ok-write_lost-in-NotReached
returns-in_ok-write_lost-in-NotReached c f h =
    let keep = c.args.keep.now in
    let b = seen c.args.block in
    let made : c.in_ok-normal.normal ≡ normal keep b = c.in_ok-normal.ensures in
    let given : c.get.result.now ≡ normal keep b = c.get.ensures ∙ made in
    let answer : IsAnswer keep b.pred (normal keep b) (end.NotReached c.in-NotReached.steps c.in-NotReached.case) =
    subst (λ r. IsAnswer keep b.pred (normal keep b) r) c.in-NotReached.is (subst (λ g. IsAnswer keep b.pred g c.in_ok-steps.field-0) given c.in_ok-steps.ensures.exact) in
    writes-lost keep f c.args.lines.now c.write_cases-in-NotReached.new.lines c.write_lost.new.lines b c.in-NotReached.steps c.in-NotReached.case
    h answer
    (c.in_ok-write_cases-in-NotReached.ensures ∙ ap (λ g. c.args.lines.now ++ cases_lines b g c.in-NotReached.steps) made)
    c.in_ok-write_lost-in-NotReached.ensures
