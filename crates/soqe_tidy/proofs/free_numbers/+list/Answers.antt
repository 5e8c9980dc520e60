use Rattle.std.proofs.Common.{◌++◌, ◌∙◌, ap, sym, ⊎_elim}
use Rattle.soqe_form.specs.Boxes.{boxes}
use Rattle.soqe_form.specs.FreeVars.{occurrences, free_occurrences}
use Rattle.soqe_tidy.proofs.NumbersListed.{lists-both, lists-below}
use Rattle.soqe_tidy.proofs.free_numbers.+list.Goals as goal

pub list-returns-in_ok-list_term-in-Equal-2 : goal.list-returns-in_ok-list_term-in-Equal-2
list-returns-in_ok-list_term-in-Equal-2 t c =
    lists-both _ _ _ _ _ _ _ _ _ _ _ (ap free_occurrences c.in-Equal.is ∙ sym (λ i. occurrences (c.get.ensures i) ++ occurrences (c.get-in-Equal.ensures i))) c.in_ok-list_term-in-Equal.ensures c.in_ok-list_term-in-Equal-2.ensures

pub list-returns-in_ok-list-in-And-2 : goal.list-returns-in_ok-list-in-And-2
unfolding boxes
list-returns-in_ok-list-in-And-2 t c =
    lists-both _ _ _ _ _ _ _ _ _ _ _
    (⊎_elim (λ e. ap free_occurrences e) (⊎_elim (λ e. ap free_occurrences e) (⊎_elim (λ e. ap free_occurrences e) (λ e. ap free_occurrences e))) c.in-And.is
    ∙ sym (λ i. free_occurrences (c.get-in-And.ensures i) ++ free_occurrences (c.get-in-And-2.ensures i)))
    c.in_ok-list-in-And.ensures c.in_ok-list-in-And-2.ensures

pub list_below-returns : goal.list_below-returns
list_below-returns t c =
    rw (← c.get.ensures)
    (lists-below _ c.args.outer c.args.x.num c.has-was_bound.result (free_occurrences c.get.result.now) c.args.bound.now c.set.new.self c.list.new.bound c.set-2.new.self c.args.nums.now c.list.new.nums
    c.has-was_bound.ensures c.in_ok-set.ensures c.in_ok-list.ensures c.in_ok-set-2.ensures)
