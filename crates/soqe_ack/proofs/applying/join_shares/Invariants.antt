use Rattle.std.proofs.Common.{◌≡◌, length, map, None}
use Rattle.std.specs.Vec.Iter.{into_iter_items, into_iter_len}
use Rattle.soqe_norm.specs.Joins.{and_onto}
use Rattle.soqe_ack.specs.Divides.{share_form}
use Rattle.soqe_ack.proofs.applying.join_shares.Given as goal

abbrev pub invariant-loop-share : goal.invariant-loop-share
invariant-loop-share l =
    (and_onto l.made (map (share_form l.by.pred.now l.by.params.now l.by.body.now) (into_iter_items l.share-iterator))
    ≡ and_onto None (map (share_form l.by.pred.now l.by.params.now l.by.body.now) l.fn.shares.items))
    × (into_iter_len l.share-iterator ≡ length (into_iter_items l.share-iterator))
