use Rattle.std.proofs.Common.{[], sym, ◌∙◌}
use Rattle.soqe_simp.proofs.EndsOf.{none_in_implication}
use Rattle.soqe_simp.proofs.rows.conditional_solution.Goals as goal

pub returns : goal.returns
returns c = none_in_implication c.args.x [] c.args.form.now (sym c.ends_in_implication.ensures ∙ c.if-ends_in_implication.false)
