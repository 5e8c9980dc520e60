use Rattle.std.proofs.Common.{inl, inr}
use Rattle.std.proofs.lemmas.Result.{IfOk-weaker}
use Rattle.soqe_calls.proofs.Reading.{size-read, size-refused}
use Rattle.soqe_calls.proofs.texts.read.Goals as goal

pub returns-in-Ok : goal.returns-in-Ok
returns-in-Ok c =
    IfOk-weaker c.goal_nodes.result _ _
    (λ n e. size-read c.as_bytes-bytes.result.now c.args.text.now c.one_spelled.ensures.one c.as_bytes-bytes.ensures.value c.in-Ok.problem n c.in-Ok.ensures.found e) c.goal_nodes.ensures

pub returns-in-Err-Syntax : goal.returns-in-Err-Syntax
returns-in-Err-Syntax c =
    size-refused c.as_bytes-bytes.result.now c.args.text.now c.one_spelled.ensures.alone c.as_bytes-bytes.ensures.value c.in-Err-Syntax.field-0-0 0
    (inl (rw c.in-Err-Syntax.field-0-is at c.in-Err-Syntax.ensures.syntax))

pub returns-in-Err-Names : goal.returns-in-Err-Names
returns-in-Err-Names c =
    size-refused c.as_bytes-bytes.result.now c.args.text.now c.one_spelled.ensures.alone c.as_bytes-bytes.ensures.value c.in-Err-Names.field-0-0 0
    (inr (inl (rw c.in-Err-Names.field-0-is at c.in-Err-Names.ensures.names)))

pub returns-in-Err-Sorts : goal.returns-in-Err-Sorts
returns-in-Err-Sorts c =
    size-refused c.as_bytes-bytes.result.now c.args.text.now c.one_spelled.ensures.alone c.as_bytes-bytes.ensures.value c.in-Err-Sorts.field-0-0 0
    (inr (inr (rw c.in-Err-Sorts.field-0-is at c.in-Err-Sorts.ensures.sorts)))
