use Rattle.soqe_term.proofs.Matches.{matches-unique}
use Rattle.soqe_term.proofs.laws.matches.Goals as goal

pub returns : goal.returns
returns c = matches-unique
