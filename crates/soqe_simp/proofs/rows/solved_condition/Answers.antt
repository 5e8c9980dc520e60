use Rattle.std.proofs.Common.{sym, ◌∙◌}
use Rattle.soqe_simp.proofs.SolvedRows.{solved_imp-sort}
use Rattle.soqe_simp.proofs.rows.solved_condition.Goals as goal

pub with_solution-requires : goal.with_solution-requires
with_solution-requires c = solved_imp-sort c.args.x c.args.form.now c.in-Some.found (sym c.in_ok-conditional_solution.ensures ∙ c.in-Some.is)
