use Rattle.std.proofs.Common.{◌||◌, ◌∙◌, ap, sym}
use Rattle.soqe_term.specs.Boxes.{boxes}
use Rattle.soqe_term.specs.Occurs.{occurs, occurs_any}
use Rattle.soqe_number.proofs.Marked.{adds-two}
use Rattle.soqe_form.proofs.names.+mark_term.Goals as goal

pub mark_terms-returns-in_ok-mark_terms-in-Cons : goal.mark_terms-returns-in_ok-mark_terms-in-Cons
unfolding boxes
mark_terms-returns-in_ok-mark_terms-in-Cons t c =
    adds-two (λ n. occurs n c.get.result.now) (λ n. occurs_any n c.get-in-Cons.result.now) _ _ _ _
    (λ n. ap (occurs_any n) c.in-Cons.is ∙ sym (λ i. occurs n (c.get.ensures i) || occurs_any n (c.get-in-Cons.ensures i)))
    c.in_ok-mark_term-in-Cons.ensures c.in_ok-mark_terms-in-Cons.ensures
