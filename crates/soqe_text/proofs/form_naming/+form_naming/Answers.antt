use Rattle.std.specs.Prelude.{◌∷◌}
use Rattle.soqe_syntax.specs.Shapes.{view}
use Rattle.soqe_text.specs.Lookups.{found_by}
use Rattle.soqe_text.specs.SpelledForm.{refused}
use Rattle.soqe_text.proofs.Refusals.{passed_on}
use Rattle.soqe_text.proofs.form_naming.+form_naming.Goals as goal

-- the first refused name of a binder of a variable is that of the formula
pub check_below_variable-returns-in_err-num-clause-refused : goal.check_below_variable-returns-in_err-num-clause-refused
check_below_variable-returns-in_err-num-clause-refused t c =
    passed_on c.known_variable.result c.from_residual.result c.in_err-num.field-0.0 _ _ c.in_err-num.was c.from_residual.ensures.1 c.known_variable.ensures.refused
    (λ at h. h (λ n. refused c.args.bytes.now (found_by c.args.look.now) (n ∷ c.args.vars.now) c.args.preds.now (view c.args.body.now)))

-- the first refused name of a binder of a predicate is that of the formula
pub check_below_predicate-returns-in_err-num-clause-refused : goal.check_below_predicate-returns-in_err-num-clause-refused
check_below_predicate-returns-in_err-num-clause-refused t c =
    passed_on c.known_predicate.result c.from_residual.result c.in_err-num.field-0.0 _ _ c.in_err-num.was c.from_residual.ensures.1 c.known_predicate.ensures.refused
    (λ at h. h (λ n. refused c.args.bytes.now (found_by c.args.look.now) c.args.vars.now (n ∷ c.args.preds.now) (view c.args.body.now)))
