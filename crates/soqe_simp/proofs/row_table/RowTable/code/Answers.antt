use Rattle.std.proofs.Common.{◌∙◌}
use Rattle.soqe_simp.proofs.Positions.{code_of_texts}
use Rattle.soqe_simp.proofs.row_table.RowTable.code.Goals as goal

pub returns : goal.returns
returns t c = record { exact = c.first_place.ensures ∙ code_of_texts c.args.name.now c.args.self.now.names.now }
