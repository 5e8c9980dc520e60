use Rattle.std.proofs.Common.{◌∙◌, ap, subst}
use Rattle.soqe_tidy.specs.Tidy.{tidied}
use Rattle.soqe_uses.specs.Uses.{AreOnTop}
use Rattle.soqe_number.proofs.Tallied.{unknown}
use Rattle.soqe_tidy.proofs.tidying.tidy_owned.Goals as goal

pub returns : goal.returns
returns c =
    let keep = c.args.keep.now in
    let on_top = subst (λ f. AreOnTop f c.gather.new.uses) c.get.ensures c.in_ok-gather.ensures.on_top in
    c.in_ok-form.ensures.is keep c.in_ok-kept.ensures on_top (unknown _ _ _ c.new-tally.ensures.known) ∙ ap (λ q. tidied keep q c.args.form) c.new-by.ensures
