use Rattle.std.proofs.Common.{◌++◌, ◌∙◌, ap, sym}
use Rattle.soqe_term.specs.Boxes.{boxes}
use Rattle.soqe_form.specs.FreeVars.{occurrences, all_occurrences}
use Rattle.soqe_subst.proofs.StandingListed.{listed-both}
use Rattle.soqe_subst.proofs.standing.+list_own.Goals as goal

pub list_all_own-returns-in_ok-list_all_own-in-Cons : goal.list_all_own-returns-in_ok-list_all_own-in-Cons
unfolding boxes
list_all_own-returns-in_ok-list_all_own-in-Cons t c =
    listed-both _ _ _ _ _ _ (ap all_occurrences c.in-Cons.is ∙ sym (λ i. occurrences (c.get.ensures i) ++ all_occurrences (c.get-in-Cons.ensures i)))
    c.in_ok-list_own-in-Cons.ensures c.in_ok-list_all_own-in-Cons.ensures
