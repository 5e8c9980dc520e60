use Rattle.std.proofs.Common.{[], sym, ◌∙◌}
use Rattle.soqe_simp.proofs.EndsOf.{none_in_negation}
use Rattle.soqe_simp.proofs.rows.denied_solution.Goals as goal

pub returns : goal.returns
returns c = none_in_negation c.args.x [] c.args.form.now (sym c.ends_in_negation.ensures ∙ c.if-ends_in_negation.false)
