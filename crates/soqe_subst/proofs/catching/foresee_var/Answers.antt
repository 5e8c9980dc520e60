use Rattle.std.proofs.Common.{◌∙◌, refl, sym, Some, None}
use Rattle.std.proofs.lemmas.Result.{on_ok_weaker}
use Rattle.soqe_number.specs.Marks.{marked}
use Rattle.soqe_uses.proofs.UsesCounted.{counts-none}
use Rattle.soqe_subst.proofs.Foreseen.{foresees-hidden, foresees-shown}
use Rattle.soqe_subst.proofs.catching.foresee_var.Goals as goal

pub returns-then-has : goal.returns-then-has
returns-then-has c = foresees-hidden (marked c.args.hidden.now) c.args.binding.now c.args.y.num c.args.counts.now (sym c.has.ensures ∙ c.if-has.true)

pub returns-in-Some : goal.returns-in-Some
returns-in-Some c =
    on_ok_weaker c.count_term.result
    (foresees-shown (marked c.args.hidden.now) c.args.binding.now c.args.y.num (Some c.in-Some.term.now) c.args.counts.now c.count_term.new.counts (sym c.has.ensures ∙ c.if-has.false) c.in-Some.ensures)
    c.count_term.ensures

pub returns-in-None : goal.returns-in-None
returns-in-None c =
    foresees-shown (marked c.args.hidden.now) c.args.binding.now c.args.y.num None c.args.counts.now c.args.counts.now (sym c.has.ensures ∙ c.if-has.false) c.in-None.ensures
    (counts-none _ c.args.counts.now (λ n. refl))
