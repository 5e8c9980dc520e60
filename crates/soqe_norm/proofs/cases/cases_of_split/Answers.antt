use Rattle.std.proofs.Common.{◌++◌, ◌∙◌, map}
use Rattle.soqe_norm.specs.Cases.{both}
use Rattle.soqe_norm.specs.Splits.{cases_in}
use Rattle.soqe_norm.proofs.CaseSplits.{none-in_front}
use Rattle.soqe_norm.proofs.cases.cases_of_split.Goals as goal

pub returns : goal.returns
returns c =
    c.in_ok-spread.ensures
    ∙ (λ i. c.new-items.ensures.items i ++ map (both (record { vars = c.new.ensures i; conj = c.new-2.ensures i })) (cases_in c.args.split))
    ∙ none-in_front (cases_in c.args.split)
