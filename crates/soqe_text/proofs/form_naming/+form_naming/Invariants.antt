use Rattle.std.specs.Prelude.{◌≡◌, ◌≤◌}
use Rattle.std.proofs.Common.{◌+◌, ◌*◌}
use Rattle.soqe_syntax.specs.Shapes.{view}
use Rattle.soqe_text.specs.Bare.{weight}
use Rattle.soqe_text.specs.Lookups.{found_by}
use Rattle.soqe_text.specs.SpelledForm.{refused}
use Rattle.soqe_text.proofs.form_naming.+form_naming.Given as goal

abbrev pub decreases-check_names : goal.decreases-check_names
decreases-check_names l = 2 * weight (view l.shape.now)

abbrev pub decreases-check_below_variable : goal.decreases-check_below_variable
decreases-check_below_variable l = 2 * weight (view l.body.now) + 1

abbrev pub decreases-check_below_predicate : goal.decreases-check_below_predicate
decreases-check_below_predicate l = 2 * weight (view l.body.now) + 1

-- the first refused name of the whole is that of what is left to walk, and scopes are as they were
abbrev pub invariant-check_names-loop-rest : goal.invariant-check_names-loop-rest
invariant-check_names-loop-rest l =
    (refused l.fn.bytes (found_by l.fn.look) l.initial.vars l.initial.preds (view l.initial.rest) ≡ refused l.fn.bytes (found_by l.fn.look) l.vars l.preds (view l.rest))
    × (l.vars ≡ l.initial.vars) × (l.preds ≡ l.initial.preds) × (weight (view l.rest) ≤ weight (view l.initial.rest))

abbrev pub decreases-check_names-loop-rest : goal.decreases-check_names-loop-rest
decreases-check_names-loop-rest l = weight (view l.rest)
