use Rattle.std.proofs.Common.{[]}
use Rattle.soqe_io.proofs.read.read_up_to.Goals as goal

pub returns-in-Ok-clause-bytes : goal.returns-in-Ok-clause-bytes
returns-in-Ok-clause-bytes g c = let t = c.in-Ok.ensures.taken in rw (t.taken [] c.new-bytes.ensures.items) t.lost

pub returns-in-Ok-clause-most : goal.returns-in-Ok-clause-most
returns-in-Ok-clause-most g c = let t = c.in-Ok.ensures.taken in rw (t.taken [] c.new-bytes.ensures.items, t.long) c.in-Ok.ensures.most

pub returns-in-Ok-clause-end : goal.returns-in-Ok-clause-end
returns-in-Ok-clause-end g c = let t = c.in-Ok.ensures.taken in rw (t.taken [] c.new-bytes.ensures.items, t.long) c.in-Ok.ensures.end
