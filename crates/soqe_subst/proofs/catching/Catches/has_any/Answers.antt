use Rattle.std.proofs.Common.{◌∙◌, ap, reverse, rules, tests}
use Rattle.std.specs.List.{list_any}
use Rattle.std.proofs.lemmas.Iterator.{YieldsList-from_slice}
use Rattle.std.proofs.lemmas.Iterator.Search.{any_from_yields_List}
use Rattle.std.proofs.lemmas.List.Sorted.{list_any-IsPermutation, IsPermutation-reverse}
use Rattle.soqe_subst.proofs.catching.Catches.has_any.Goals as goal

pub returns : goal.returns
returns c =
    let items = c.self.inside.items.items in
    any_from_yields_List (λ b. b) _ _ _ c.any.ensures.ran (YieldsList-from_slice items cc) (λ x b q k. search (rules, tests))
    ∙ list_any-IsPermutation (λ b. b) items (reverse items) (IsPermutation-reverse items) ∙ ap (list_any (λ b. b)) c.self.view_is
