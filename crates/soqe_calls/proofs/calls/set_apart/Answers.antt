use Rattle.std.proofs.Common.{◌∙◌, ap}
use Rattle.std.proofs.lemmas.Result.{IfOk-weaker}
use Rattle.soqe_calls.specs.Nodes.{nodes}
use Rattle.soqe_calls.proofs.Sizes.{nodes-renumbered}
use Rattle.soqe_calls.proofs.calls.set_apart.Goals as goal

pub returns : goal.returns
returns c =
    let a = c.in_ok-made.ensures.exact in
    IfOk-weaker c.count.result _ _ (λ n e. e ∙ ap nodes a.is ∙ nodes-renumbered a.numbers (λ m. m) 0 c.get.result.now ∙ ap nodes c.get.ensures) c.count.ensures
