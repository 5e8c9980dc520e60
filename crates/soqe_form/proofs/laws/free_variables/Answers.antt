use Rattle.soqe_form.proofs.FreeVariables.{is_among-free_vars}
use Rattle.soqe_form.proofs.laws.free_variables.Goals as goal

pub returns : goal.returns
returns c = record { listed = is_among-free_vars }
