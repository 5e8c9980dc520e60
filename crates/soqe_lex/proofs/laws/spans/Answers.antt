use Rattle.soqe_lex.proofs.Spanned.{within, in_order, stops_behind}
use Rattle.soqe_lex.proofs.laws.spans.Goals as goal

pub returns-clause-within : goal.returns-clause-within
returns-clause-within c = within

pub returns-clause-in_order : goal.returns-clause-in_order
returns-clause-in_order c = in_order

pub returns-clause-stop : goal.returns-clause-stop
returns-clause-stop c = stops_behind
