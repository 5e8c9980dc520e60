use Rattle.std.proofs.Common.{◌+◌, ◌*◌}
use Rattle.soqe_form.specs.Mentions.{depth}
use Rattle.soqe_psub.proofs.pred_substitution.+replace.Given as goal

abbrev pub decreases-replace : goal.decreases-replace
decreases-replace l = 4 * depth l.form.now

abbrev pub decreases-replace_boxed : goal.decreases-replace_boxed
decreases-replace_boxed l = 4 * depth l.form.now + 1

abbrev pub decreases-replace_below : goal.decreases-replace_below
decreases-replace_below l = 4 * depth l.form.now + 2

abbrev pub decreases-replace_below_pred : goal.decreases-replace_below_pred
decreases-replace_below_pred l = 4 * depth l.form.now + 2

abbrev pub decreases-replace_unless_hidden : goal.decreases-replace_unless_hidden
decreases-replace_unless_hidden l = 4 * depth l.form.now + 3
