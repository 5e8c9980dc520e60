use Rattle.std.proofs.Common.{◌++◌, ◌∙◌, ap, sym, refl, ⊎_elim}
use Rattle.soqe_form.specs.Boxes.{boxes}
use Rattle.soqe_form.specs.FreeVars.{occurrences, free_occurrences}
use Rattle.soqe_number.specs.Marks.{marked}
use Rattle.soqe_number.specs.Updates.{changed}
use Rattle.soqe_form.proofs.FreeVariables.{collects-both, collects-below}
use Rattle.soqe_form.proofs.free_variables.+collect.Goals as goal

pub collect-returns-in_ok-collect_term-in-Equal-2 : goal.collect-returns-in_ok-collect_term-in-Equal-2
collect-returns-in_ok-collect_term-in-Equal-2 t c =
    collects-both _ _ _ _ _ _ (ap free_occurrences c.in-Equal.is ∙ sym (λ i. occurrences (c.get.ensures i) ++ occurrences (c.get-in-Equal.ensures i))) c.in_ok-collect_term-in-Equal.ensures c.in_ok-collect_term-in-Equal-2.ensures

pub collect-returns-in_ok-collect-in-And-2 : goal.collect-returns-in_ok-collect-in-And-2
unfolding boxes
collect-returns-in_ok-collect-in-And-2 t c =
    collects-both _ _ _ _ _ _
    (⊎_elim (λ e. ap free_occurrences e) (⊎_elim (λ e. ap free_occurrences e) (⊎_elim (λ e. ap free_occurrences e) (λ e. ap free_occurrences e))) c.in-And.is
    ∙ sym (λ i. free_occurrences (c.get-in-And.ensures i) ++ free_occurrences (c.get-in-And-2.ensures i)))
    c.in_ok-collect-in-And.ensures c.in_ok-collect-in-And-2.ensures

pub collect_below-returns : goal.collect_below-returns
collect_below-returns t c =
    rw (← c.get.ensures)
    (collects-below c.args.collected.now (record { vars = c.args.collected.now.vars; marks = c.set.new.self }) c.collect.new.collected
    (record { vars = c.collect.new.collected.vars; marks = c.set-2.new.self }) c.args.x.num (free_occurrences c.get.result.now)
    refl c.in_ok-set.ensures c.in_ok-collect.ensures refl (c.in_ok-set-2.ensures ∙ ap (changed (marked c.collect.new.collected.marks) c.args.x.num) c.has-was_marked.ensures))
