use Rattle.soqe_simp.proofs.laws.row_tables.Goals as goal
use Rattle.soqe_simp.proofs.Positions.{codes-lead_back, names-lead_back}

pub returns : goal.returns
returns c = record { codes = codes-lead_back; names = names-lead_back }
