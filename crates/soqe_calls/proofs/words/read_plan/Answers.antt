use Rattle.std.proofs.Common.{string_bytes}
use Rattle.soqe_calls.proofs.Planned.{plan-of_words}
use Rattle.soqe_calls.proofs.words.read_plan.Goals as goal

pub returns-in-Ok : goal.returns-in-Ok
returns-in-Ok c =
    plan-of_words string_bytes c.args.words.now c.call-item.result c.shape-item.result c.size-item.result
    c.as_str-in-len4.result.now c.as_str-in-len4-2.result.now c.as_str.result.now c.in-Ok.size c.plan_of.result
    c.in-len4.len_at_least c.in-len4.len_below c.call-item.is c.shape-item.is c.size-item.is
    c.as_str-in-len4.ensures.value c.as_str-in-len4-2.ensures.value c.as_str.ensures.value c.in-Ok.ensures.value.0 c.plan_of.ensures
