use Rattle.soqe_lex.proofs.Lexing.{one_reading}
use Rattle.soqe_lex.proofs.laws.one_way.Goals as goal

pub returns : goal.returns
returns c = λ at bytes ts us stop halt l r. one_reading l r
