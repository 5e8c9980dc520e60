use Rattle.std.proofs.Common.{◌++◌, ◌∙◌, ap, sym}
use Rattle.soqe_term.specs.Boxes.{boxes}
use Rattle.soqe_form.specs.FreeVars.{occurrences, all_occurrences}
use Rattle.soqe_uses.proofs.UsesCounted.{counts-both}
use Rattle.soqe_subst.proofs.catching.+count_term.Goals as goal

pub count_terms-returns-in_ok-count_terms-in-Cons : goal.count_terms-returns-in_ok-count_terms-in-Cons
unfolding boxes
count_terms-returns-in_ok-count_terms-in-Cons t c =
    counts-both (occurrences c.get.result.now) (all_occurrences c.get-in-Cons.result.now) _ _ _ _
    (ap all_occurrences c.in-Cons.is ∙ sym (λ i. occurrences (c.get.ensures i) ++ all_occurrences (c.get-in-Cons.ensures i)))
    c.in_ok-count_term-in-Cons.ensures c.in_ok-count_terms-in-Cons.ensures
