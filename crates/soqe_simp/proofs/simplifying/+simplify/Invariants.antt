use Rattle.std.proofs.Common.{◌≡◌, ◌≤◌, ◌+◌, ◌*◌, length}
use Rattle.soqe_number.specs.Counts.{counted}
use Rattle.soqe_simp.specs.Weight.{weight}
use Rattle.soqe_simp.specs.Ready.{IsSimple}
use Rattle.soqe_simp.specs.Simplified.{simplify}
use Rattle.soqe_form.specs.Quantifiers.{quantified, quantify}
use Rattle.soqe_simp.specs.Known.{Knows}
use Rattle.soqe_simp.proofs.Finished.{load}
use Rattle.soqe_simp.proofs.Knowing.{EachHasPlace}
use Rattle.soqe_simp.proofs.simplifying.+simplify.Given as goal

abbrev pub decreases-simplify_owned : goal.decreases-simplify_owned
decreases-simplify_owned l = 8 * weight l.form + 5

abbrev pub decreases-simplify_node : goal.decreases-simplify_node
decreases-simplify_node l = 8 * weight l.form + 4

abbrev pub decreases-step_at_root : goal.decreases-step_at_root
decreases-step_at_root l = 8 * weight l.form + 3

abbrev pub decreases-settle : goal.decreases-settle
decreases-settle l = 8 * weight l.form + 1

abbrev pub decreases-finish : goal.decreases-finish
decreases-finish l = load l.stepped

abbrev pub decreases-settle_first : goal.decreases-settle_first
decreases-settle_first l = 8 * weight l.form + 6

abbrev pub decreases-settle_made : goal.decreases-settle_made
decreases-settle_made l = 8 * weight l.made.form + 7

abbrev pub decreases-simplify_chain : goal.decreases-simplify_chain
decreases-simplify_chain l = 8 * weight (quantified l.outermost l.form) + 4

abbrev pub decreases-simplify_one : goal.decreases-simplify_one
decreases-simplify_one l = 8 * weight (quantified l.quantifier l.form) + 3

abbrev pub decreases-put_back_few : goal.decreases-put_back_few
decreases-put_back_few l = 8 * weight (quantify l.chain.items l.form) + 3

abbrev pub decreases-put_back : goal.decreases-put_back
decreases-put_back l = 8 * weight (quantify l.chain.items l.form) + 3

abbrev pub decreases-put_known : goal.decreases-put_known
decreases-put_known l = 8 * weight (quantified l.quantifier l.form) + 2

abbrev pub decreases-put_looking : goal.decreases-put_looking
decreases-put_looking l = 8 * weight (quantified l.quantifier l.form) + 1

abbrev pub decreases-put_front : goal.decreases-put_front
decreases-put_front l = 8 * weight (quantified l.quantifier l.form) + 1

abbrev pub invariant-put_back_few-loop-quantifier : goal.invariant-put_back_few-loop-quantifier
invariant-put_back_few-loop-quantifier l =
    IsSimple l.made × (simplify (quantify l.chain.items l.made) ≡ simplify (quantify l.fn.chain.items l.fn.form))
    × (weight (quantify l.chain.items l.made) ≤ weight (quantify l.fn.chain.items l.fn.form))

abbrev pub decreases-put_back_few-loop-quantifier : goal.decreases-put_back_few-loop-quantifier
decreases-put_back_few-loop-quantifier l = length l.chain.items

abbrev pub invariant-put_back-loop-quantifier : goal.invariant-put_back-loop-quantifier
invariant-put_back-loop-quantifier l =
    IsSimple l.made × (simplify (quantify l.chain.items l.made) ≡ simplify (quantify l.fn.chain.items l.fn.form))
    × (weight (quantify l.chain.items l.made) ≤ weight (quantify l.fn.chain.items l.fn.form))
    × EachHasPlace l.chain.items (counted l.known.places) × Knows (length l.chain.items) l.known l.made

abbrev pub decreases-put_back-loop-quantifier : goal.decreases-put_back-loop-quantifier
decreases-put_back-loop-quantifier l = length l.chain.items
