use Rattle.std.proofs.Common.{◌∙◌, ap}
use Rattle.std.proofs.lemmas.Result.{IfOk-weaker}
use Rattle.soqe_tidy.specs.Tidy.{tidy}
use Rattle.soqe_calls.specs.Nodes.{nodes}
use Rattle.soqe_calls.proofs.calls.tidied.Goals as goal

pub returns : goal.returns
returns c = IfOk-weaker c.count.result _ _
    (λ n e. e ∙ ap nodes (c.in_ok-made.ensures ∙ (λ i. tidy (c.new-keep.ensures i) (c.in_ok-copy.ensures i)))) c.count.ensures
