use Rattle.soqe_number.proofs.Tallied.{finds-known}
use Rattle.soqe_tidy.proofs.tidying.number.Goals as goal

pub returns : goal.returns
returns c = finds-known c.args.kept.now _ c.args.tally.now c.know.new.tally c.least-num.new.self c.least-num.result c.in_ok-know.ensures c.least-num.ensures.least c.least-num.ensures.same
