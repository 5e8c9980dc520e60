use Rattle.std.proofs.Common.{◌++◌, ◌∙◌, ap, sym}
use Rattle.soqe_term.specs.Boxes.{boxes}
use Rattle.soqe_form.specs.FreeVars.{occurrences, all_occurrences}
use Rattle.soqe_tidy.proofs.NumbersListed.{lists-both}
use Rattle.soqe_tidy.proofs.free_numbers.+list_term.Goals as goal

pub list_terms-returns-in_ok-list_terms-in-Cons : goal.list_terms-returns-in_ok-list_terms-in-Cons
unfolding boxes
list_terms-returns-in_ok-list_terms-in-Cons t c =
    lists-both _ _ _ _ _ _ _ _ _ _ _
    (ap all_occurrences c.in-Cons.is ∙ sym (λ i. occurrences (c.get.ensures i) ++ all_occurrences (c.get-in-Cons.ensures i)))
    c.in_ok-list_term-in-Cons.ensures c.in_ok-list_terms-in-Cons.ensures
