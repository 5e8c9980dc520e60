use Rattle.std.proofs.Common.{◌∙◌, sym}
use Rattle.std.proofs.lemmas.Bool.{both_ways}
use Rattle.soqe_form.specs.Same.{same}
use Rattle.soqe_form.proofs.SameOrder.{same-equal}
use Rattle.soqe_calls.proofs.calls.compared.Goals as goal

-- a copy is the same, so this end is not reached
pub returns : goal.returns
returns c =
    let f = c.get.result.now in
    let g = c.get-2.result.now in
    absurd (both_ways (same f g) (sym c.same.ensures ∙ c.if-same.false)
    (same-equal f g (c.get.ensures ∙ sym c.in_ok-copy.ensures ∙ sym c.get-2.ensures)))
