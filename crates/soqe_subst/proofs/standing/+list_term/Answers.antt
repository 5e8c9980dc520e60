use Rattle.std.proofs.Common.{◌++◌, ◌∙◌, ap, sym}
use Rattle.soqe_term.specs.Boxes.{boxes}
use Rattle.soqe_form.specs.FreeVars.{occurrences, all_occurrences}
use Rattle.soqe_subst.specs.NewVars.{new_var}
use Rattle.soqe_subst.specs.Renewed.{renewed_term, all_renewed}
use Rattle.soqe_subst.proofs.StandingListed.{listed-both}
use Rattle.soqe_subst.proofs.standing.+list_term.Goals as goal

pub list_terms-returns-in_ok-list_terms-in-Cons : goal.list_terms-returns-in_ok-list_terms-in-Cons
unfolding boxes
list_terms-returns-in_ok-list_terms-in-Cons t c =
    let r = new_var c.args.renamed.now in
    listed-both _ _ _ _ _ _
    (ap (λ ts. all_occurrences (all_renewed r ts)) c.in-Cons.is
    ∙ sym (λ i. occurrences (renewed_term r (c.get.ensures i)) ++ all_occurrences (all_renewed r (c.get-in-Cons.ensures i))))
    c.in_ok-list_term-in-Cons.ensures c.in_ok-list_terms-in-Cons.ensures
