use Rattle.soqe_simp.proofs.Vacuous.{unused_variable-keeps, unused_predicate-keeps}
use Rattle.soqe_simp.proofs.SolvedRows.{solved_some-keeps, solved_negation-keeps, solved_condition-keeps}
use Rattle.soqe_simp.proofs.laws.quantifier_rows.Goals as goal

pub returns-clause-unused_variable : goal.returns-clause-unused_variable
returns-clause-unused_variable c = unused_variable-keeps

pub returns-clause-unused_predicate : goal.returns-clause-unused_predicate
returns-clause-unused_predicate c = unused_predicate-keeps

pub returns-clause-solved_some : goal.returns-clause-solved_some
returns-clause-solved_some c = solved_some-keeps

pub returns-clause-solved_negation : goal.returns-clause-solved_negation
returns-clause-solved_negation c = solved_negation-keeps

pub returns-clause-solved_condition : goal.returns-clause-solved_condition
returns-clause-solved_condition c = solved_condition-keeps
