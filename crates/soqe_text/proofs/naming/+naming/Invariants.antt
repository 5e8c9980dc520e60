use Rattle.std.specs.Prelude.{◌≡◌, ◌≤◌}
use Rattle.std.proofs.Common.{◌+◌, ◌*◌}
use Rattle.soqe_syntax.specs.Shapes.{view}
use Rattle.soqe_text.specs.Bare.{weight}
use Rattle.soqe_text.specs.Naming.{named}
use Rattle.soqe_text.proofs.naming.+naming.Given as goal

abbrev pub decreases-named : goal.decreases-named
decreases-named l = 2 * weight (view l.shape.now)

abbrev pub decreases-named_below_variable : goal.decreases-named_below_variable
decreases-named_below_variable l = 2 * weight (view l.body.now) + 1

abbrev pub decreases-named_below_predicate : goal.decreases-named_below_predicate
decreases-named_below_predicate l = 2 * weight (view l.body.now) + 1

-- what is left to walk has the names of the whole, and scopes are as they were
abbrev pub invariant-named-loop-rest : goal.invariant-named-loop-rest
invariant-named-loop-rest l =
    (named l.fn.bytes l.initial.sig l.initial.vars l.initial.preds (view l.initial.rest) ≡ named l.fn.bytes l.sig l.vars l.preds (view l.rest))
    × (l.vars ≡ l.initial.vars) × (l.preds ≡ l.initial.preds) × (weight (view l.rest) ≤ weight (view l.initial.rest))

abbrev pub decreases-named-loop-rest : goal.decreases-named-loop-rest
decreases-named-loop-rest l = weight (view l.rest)
