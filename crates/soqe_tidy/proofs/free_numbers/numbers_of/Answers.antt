use Rattle.std.proofs.Common.{◌++◌, ◌∙◌, ap}
use Rattle.soqe_term.specs.Renumber.{renames}
use Rattle.soqe_form.specs.FreeVars.{free_occurrences}
use Rattle.soqe_tidy.specs.Numbers.{new_numbers, unmarked}
use Rattle.soqe_tidy.proofs.NumbersListed.{unmarked-all}
use Rattle.soqe_tidy.proofs.free_numbers.numbers_of.Goals as goal

pub returns : goal.returns
returns c =
    let r = renames c.args.by.now in
    let ys = free_occurrences c.args.form.now in
    c.in_ok-list.ensures.nums ∙ (λ i. c.new-nums.ensures i ++ new_numbers r (unmarked (c.new-bound.ensures i) ys)) ∙ ap (new_numbers r) (unmarked-all ys)
