-- Splits that hold boxes, and how they compute.
use Rattle.soqe_norm.specs.declared.splits.Split.TheBlock.{hidden-the_row-Split-0}
use denote.Hole.Carrier.{hidden}

-- named on an `unfolding` line, lets a constructor with boxes compute
unfoldable pub split_boxes : Unit {0}
unfolding hidden-the_row-Split-0 hidden
split_boxes = tt
