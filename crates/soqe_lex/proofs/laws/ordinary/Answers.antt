use Rattle.soqe_lex.proofs.Ordinaries.{ordinary_kind}
use Rattle.soqe_lex.proofs.laws.ordinary.Goals as goal

pub returns : goal.returns
returns c = ordinary_kind
