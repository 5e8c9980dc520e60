use Rattle.std.proofs.Common.{◌∙◌, ap, subst}
use Rattle.soqe_term.specs.Renumber.{renames}
use Rattle.soqe_form.specs.FreeVars.{free_occurrences, others}
use Rattle.soqe_tidy.specs.Numbers.{new_numbers}
use Rattle.soqe_number.specs.Tallies.{IsRightAlways}
use Rattle.soqe_number.proofs.Tallied.{knows-now}
use Rattle.soqe_tidy.proofs.tidying.know.Goals as goal

pub returns-in_ok-tally : goal.returns-in_ok-tally
returns-in_ok-tally c =
    let r = renames c.args.by.now in
    knows-now (new_numbers r (others c.args.x (free_occurrences c.args.form.now))) c.args.tally.now c.in_ok-tally.field-0
    (subst (λ ns. IsRightAlways ns c.in_ok-tally.field-0)
    (c.in_ok-nums.ensures ∙ ap (λ f. new_numbers r (others c.args.x (free_occurrences f))) c.get.ensures)
    c.in_ok-tally.ensures)
