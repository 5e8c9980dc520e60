use Rattle.soqe_ack.proofs.Applies.{tried-second}
use Rattle.soqe_ack.proofs.trying.second_try.Goals as goal

pub returns-in-Some : goal.returns-in-Some
returns-in-Some c =
    tried-second c.args.pred.now c.args.keep.now c.args.case.now.vars c.args.case.now.conj c.in_ok-acked.field-0 c.in-Some.acked c.requires c.in_ok-acked.ensures.exact c.in-Some.is
