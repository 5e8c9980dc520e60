use Rattle.std.proofs.Common.{refl, arith}
use Rattle.soqe_run.specs.Answer.{by_method}
use Rattle.soqe_run.proofs.run.reply_to.Goals as goal

pub returns : goal.returns
returns c = by_method c.args.wanted refl (omega (arith, c.if-bytes-gt-MAX_BYTES.false))
    c.in_ok-respond.ensures.status c.in_ok-respond.ensures.responds
