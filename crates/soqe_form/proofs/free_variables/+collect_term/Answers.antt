use Rattle.std.proofs.Common.{◌++◌, ◌∙◌, ap, sym}
use Rattle.soqe_term.specs.Boxes.{boxes}
use Rattle.soqe_form.specs.FreeVars.{occurrences, all_occurrences}
use Rattle.soqe_form.proofs.FreeVariables.{collects-both}
use Rattle.soqe_form.proofs.free_variables.+collect_term.Goals as goal

pub collect_terms-returns-in_ok-collect_terms-in-Cons : goal.collect_terms-returns-in_ok-collect_terms-in-Cons
unfolding boxes
collect_terms-returns-in_ok-collect_terms-in-Cons t c =
    collects-both _ _ _ _ _ _
    (ap all_occurrences c.in-Cons.is ∙ sym (λ i. occurrences (c.get.ensures i) ++ all_occurrences (c.get-in-Cons.ensures i)))
    c.in_ok-collect_term-in-Cons.ensures c.in_ok-collect_terms-in-Cons.ensures
