use Rattle.soqe_term.proofs.EqualTerms.{equal_terms-is}
use Rattle.soqe_term.proofs.term.Term.equals.Goals as goal

pub returns-clause-same : goal.returns-clause-same
returns-clause-same c = equal_terms-is c.args.self.now c.args.other.now c.are_equal.result c.are_equal.ensures
