use Rattle.std.proofs.Common.{◌+◌, ◌*◌}
use Rattle.soqe_syntax.specs.Shapes.{view}
use Rattle.soqe_text.specs.Bare.{weight}
use Rattle.soqe_text.proofs.numbering.+numbering.Given as goal

abbrev pub decreases-numbered : goal.decreases-numbered
decreases-numbered l = 3 * weight (view l.shape.now) + 2

abbrev pub decreases-numbered_bare : goal.decreases-numbered_bare
decreases-numbered_bare l = 3 * weight (view l.shape.now) + 1

abbrev pub decreases-numbered_over_elements : goal.decreases-numbered_over_elements
decreases-numbered_over_elements l = 3 * weight (view l.body.now) + 3

abbrev pub decreases-numbered_over_tables : goal.decreases-numbered_over_tables
decreases-numbered_over_tables l = 3 * weight (view l.body.now) + 3

abbrev pub decreases-numbered_negation : goal.decreases-numbered_negation
decreases-numbered_negation l = 3 * weight (view l.body.now) + 3

abbrev pub decreases-numbered_sides : goal.decreases-numbered_sides
decreases-numbered_sides l = 3 * (weight (view l.left.now) + weight (view l.right.now)) + 3
