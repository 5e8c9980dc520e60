use Rattle.std.proofs.Common.{sym, ◌∙◌}
use Rattle.soqe_simp.proofs.SolvedRows.{solved-sort}
use Rattle.soqe_simp.proofs.rows.solved_some.Goals as goal

pub with_solution-requires : goal.with_solution-requires
with_solution-requires c = solved-sort c.args.x c.args.form.now c.in-Some.found (sym c.in_ok-find.ensures ∙ c.in-Some.is)
