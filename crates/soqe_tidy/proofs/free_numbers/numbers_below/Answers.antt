use Rattle.std.proofs.Common.{◌++◌, ◌∙◌, ap, Some}
use Rattle.soqe_term.specs.Renumber.{renames}
use Rattle.soqe_form.specs.FreeVars.{free_occurrences}
use Rattle.soqe_tidy.specs.Numbers.{is_bound, new_numbers, unmarked}
use Rattle.soqe_tidy.proofs.NumbersListed.{unmarked-outer}
use Rattle.soqe_tidy.proofs.free_numbers.numbers_below.Goals as goal

pub returns : goal.returns
returns c =
    let r = renames c.args.by.now in
    let ys = free_occurrences c.args.form.now in
    c.in_ok-list.ensures.nums ∙ (λ i. c.new-nums.ensures i ++ new_numbers r (unmarked (is_bound (Some c.args.x) c.new-bound.result) ys))
    ∙ ap (new_numbers r) (unmarked-outer c.args.x c.new-bound.result ys c.new-bound.ensures)
