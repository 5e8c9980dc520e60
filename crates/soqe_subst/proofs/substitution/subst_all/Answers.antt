use Rattle.std.proofs.Common.{sym, subst, ◌∙◌}
use Rattle.soqe_number.specs.Unkept.{Keeps}
use Rattle.soqe_subst.specs.Catching.{AreCaught}
use Rattle.soqe_subst.specs.Substitution.{visible}
use Rattle.soqe_subst.proofs.SubLaws.{exact_of, truth_of, sorts_of}
use Rattle.soqe_subst.proofs.substitution.subst_all.Goals as goal

pub returns-clause-exact : goal.returns-clause-exact
returns-clause-exact c =
    let same = c.in_ok-foresee.ensures.kept in
    c.in_ok-form-2.ensures
    ∙ exact_of c.in_ok-kept.kept c.args.binding.now _ _ _ c.args.form.now c.in_ok-form.form (same ∙ c.new-hidden.ensures) c.new-renamed.ensures c.new-tally.ensures.known
    (subst (λ l. Keeps l c.in_ok-kept.kept) c.new.ensures c.in_ok-kept.ensures)
    c.count_uses.ensures.distinct
    (λ d. subst (λ h. AreCaught (visible h c.args.binding.now) c.args.form.now c.foresee.new.catches) (sym same) (c.in_ok-foresee.ensures.caught d))
    c.in_ok-others.ensures.uses c.in_ok-form.ensures

pub returns-clause-truth : goal.returns-clause-truth
returns-clause-truth c = truth_of c.args.binding.now c.args.form.now c.in_ok-form-2.form (returns-clause-exact c)

pub returns-clause-sorted : goal.returns-clause-sorted
returns-clause-sorted c = sorts_of c.args.binding.now c.args.form.now c.in_ok-form-2.form (returns-clause-exact c)
