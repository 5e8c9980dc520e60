use Rattle.soqe_text.proofs.Names.{odd_bytes}
use Rattle.soqe_text.proofs.new_names.declare.Goals as goal

pub returns-in-Err-clause-refused : goal.returns-in-Err-clause-refused
returns-in-Err-clause-refused c = odd_bytes _ _ c.in-Err.ensures.cases.0
