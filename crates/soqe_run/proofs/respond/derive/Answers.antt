use Rattle.soqe_run.proofs.Responses.{responds_done, responds_stopped, stopped_is_reply}
use Rattle.soqe_run.proofs.respond.derive.Goals as goal

pub returns-in_ok-written-in-Ok-Done-clause-responds : goal.returns-in_ok-written-in-Ok-Done-clause-responds
returns-in_ok-written-in-Ok-Done-clause-responds c bytes =
    responds_done c.args.wanted _ _ c.in-Ok-Done.document _ _ bytes c.in-Ok-Done.field-0-is
    c.in-Ok-Done.ensures.ordered c.in-Ok-Done.ensures.sound c.in_ok-written-in-Ok-Done.ensures

pub returns-in_ok-written-in-Ok-Stopped-clause-responds : goal.returns-in_ok-written-in-Ok-Stopped-clause-responds
returns-in_ok-written-in-Ok-Stopped-clause-responds c bytes =
    responds_stopped c.args.wanted _ _ c.in-Ok-Stopped.document c.in-Ok-Stopped.stop _ _ bytes c.in-Ok-Stopped.field-0-is
    c.in-Ok-Stopped.ensures.ordered c.in-Ok-Stopped.ensures.sound (rw c.stop_status.ensures at c.in_ok-written-in-Ok-Stopped.ensures)

pub returns-in_ok-written-in-Ok-Stopped-clause-status : goal.returns-in_ok-written-in-Ok-Stopped-clause-status
returns-in_ok-written-in-Ok-Stopped-clause-status c =
    stopped_is_reply c.in-Ok-Stopped.stop c.stop_status.result _ _ _ c.stop_status.ensures c.in_ok-written-in-Ok-Stopped.ensures
