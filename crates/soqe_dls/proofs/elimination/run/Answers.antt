use Rattle.std.proofs.Common.{◌≡◌, ◌≤◌, ◌+◌, ◌-◌, ℕ, [], ◌∷◌, ◌∙◌, length, reverse, Option, Some, sym, ap, subst, arith}
use Rattle.std.proofs.lemmas.List.{reverse-append, reverse-reverse}
use Rattle.soqe_form.specs.declared.form.Form.{Form}
use Rattle.soqe_dls.specs.Parts.{WritesCase, WritesReached}
use Rattle.soqe_dls.specs.Runs.{IsDone}
use Rattle.soqe_dls.proofs.Running.{Leads, leads-none, leads-done, leads-reached, leads-lost, none-left}
use Rattle.soqe_dls.proofs.elimination.run.Goals as goal

pub loop-case-init : goal.loop-case-init
loop-case-init c =
    let count : c.len-count.result ≡ c.into_vec-left.result.len = c.len-count.ensures in
    let all : c.reverse.new.self.len ≡ c.into_vec-left.result.len = c.reverse.ensures.len in
    let same : c.reverse.new.self.len ≡ length c.reverse.new.self.items = c.reverse.new.self.ok.0 in (
      leads-none c.args.keep.now c.args.pred.now c.args.cases (reverse c.reverse.new.self.items) (c.len-count.result - length c.reverse.new.self.items) c.new-steps.result
          (ap reverse c.reverse.ensures.items ∙ reverse-reverse c.into_vec-left.result.items ∙ c.into_vec-left.ensures) (omega arith) c.new-steps.ensures,
      omega arith,
    )

pub returns-in-None : goal.returns-in-None
returns-in-None c =
    let count : c.len.result ≡ c.pop.new.self.len = c.len.ensures in
    let fewer : c.pop.new.self.len + 1 ≡ c.loop-case.left.len = c.in-Some.ensures.cases in
    let same : c.loop-case.left.len ≡ length c.loop-case.left.items = c.loop-case.left.ok.0 in
    let within : length c.loop-case.left.items ≤ c.len-count.result = c.loop-case.invariant.1 in
    leads-lost c.args.keep.now c.args.pred.now c.args.cases (reverse c.loop-case.left.items) (c.len-count.result - length c.loop-case.left.items) c.loop-case.steps c.loop-case.so_far
    c.loop-case.invariant.0 c.in-Some.case (reverse c.pop.new.self.items) (ap reverse c.in-Some.ensures.items ∙ reverse-append c.pop.new.self.items (c.in-Some.case ∷ []))
    c.write_case.new.steps (c.len-count.result - c.len.result) (omega arith)
    (subst (λ (o : Option Form). WritesCase c.args.keep.now c.args.pred.now (c.len-count.result - c.len.result) c.in-Some.case c.loop-case.steps c.write_case.new.steps o) c.in-None.is c.in_ok-form.ensures)

pub loop-case-preserved : goal.loop-case-preserved
loop-case-preserved c =
    let left : c.len.result ≡ length c.pop.new.self.items = c.len.ensures ∙ c.pop.new.self.ok.0 in
    let count : c.len.result ≡ c.pop.new.self.len = c.len.ensures in
    let fewer : c.pop.new.self.len + 1 ≡ c.loop-case.left.len = c.in-Some.ensures.cases in
    let same : c.loop-case.left.len ≡ length c.loop-case.left.items = c.loop-case.left.ok.0 in
    let within : length c.loop-case.left.items ≤ c.len-count.result = c.loop-case.invariant.1 in (
      subst (λ (f : Form). Leads c.args.keep.now c.args.pred.now c.args.cases (reverse c.pop.new.self.items) (c.len-count.result - length c.pop.new.self.items) c.write_case.new.steps (Some f))
          (sym c.in_ok-joined-in-Some-2.ensures)
          (leads-reached c.args.keep.now c.args.pred.now c.args.cases (reverse c.loop-case.left.items) (c.len-count.result - length c.loop-case.left.items) c.loop-case.steps c.loop-case.so_far
          c.loop-case.invariant.0 c.in-Some.case (reverse c.pop.new.self.items) (ap reverse c.in-Some.ensures.items ∙ reverse-append c.pop.new.self.items (c.in-Some.case ∷ []))
          c.write_case.new.steps (c.len-count.result - length c.pop.new.self.items) (omega arith) c.in-Some-2.form
          (subst (λ (n : ℕ). WritesReached c.args.keep.now c.args.pred.now (c.len-count.result - n) c.in-Some.case c.loop-case.steps c.write_case.new.steps c.in-Some-2.form) left
          (subst (λ (o : Option Form). WritesCase c.args.keep.now c.args.pred.now (c.len-count.result - c.len.result) c.in-Some.case c.loop-case.steps c.write_case.new.steps o) c.in-Some-2.is c.in_ok-form.ensures))),
      omega arith,
    )

pub returns : goal.returns
returns c =
    subst (λ (f : Form). IsDone c.args.keep.now c.args.pred.now c.args.cases c.loop-case.steps f) (sym c.in_ok-form-2.ensures)
    (leads-done c.args.keep.now c.args.pred.now c.args.cases (reverse c.loop-case.left.items) (c.len-count.result - length c.loop-case.left.items) c.loop-case.steps c.loop-case.so_far
    c.loop-case.invariant.0 (none-left c.loop-case.left.items (sym c.loop-case.left.ok.0 ∙ c.in_default.ensures.cases.0)))
