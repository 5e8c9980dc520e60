use Rattle.soqe_number.proofs.Marked.{least_of_tried}
use Rattle.soqe_number.proofs.marks.Marks.least_unmarked_from.Goals as goal

pub returns : goal.returns
returns c =
    least_of_tried c.self.inside.marks c.args.self.now c.len-count.result c.loop-n.n c.self.view_is c.len-count.ensures.len c.loop-n-test.false
    c.loop-n.invariant
