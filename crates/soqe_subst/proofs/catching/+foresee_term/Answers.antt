use Rattle.std.proofs.Common.{◌+◌, ◌∙◌, ap, sym}
use Rattle.soqe_term.specs.Boxes.{boxes}
use Rattle.soqe_number.specs.Marks.{marked}
use Rattle.soqe_subst.specs.Substitution.{visible}
use Rattle.soqe_subst.specs.Catching.{put_in_term, put_in_terms}
use Rattle.soqe_subst.proofs.Foreseen.{counts-sum}
use Rattle.soqe_subst.proofs.catching.+foresee_term.Goals as goal

pub foresee_terms-returns-in_ok-foresee_terms-in-Cons : goal.foresee_terms-returns-in_ok-foresee_terms-in-Cons
unfolding boxes
foresee_terms-returns-in_ok-foresee_terms-in-Cons t c =
    let v = visible (marked c.args.hidden.now) c.args.binding.now in
    counts-sum (λ n. put_in_term v n c.get.result.now) (λ n. put_in_terms v n c.get-in-Cons.result.now) (λ n. put_in_terms v n c.args.terms.now) _ _ _
    (λ n. ap (put_in_terms v n) c.in-Cons.is ∙ sym (λ i. put_in_term v n (c.get.ensures i) + put_in_terms v n (c.get-in-Cons.ensures i)))
    c.in_ok-foresee_term-in-Cons.ensures c.in_ok-foresee_terms-in-Cons.ensures
