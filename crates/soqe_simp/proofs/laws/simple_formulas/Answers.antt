use Rattle.soqe_simp.proofs.Simplifies.{simplify-keeps}
use Rattle.soqe_simp.proofs.Simple.{simplify-simple, simple-stays, any-bound}
use Rattle.soqe_simp.proofs.laws.simple_formulas.Goals as goal

pub returns-clause-kept : goal.returns-clause-kept
returns-clause-kept c = simplify-keeps

pub returns-clause-simple : goal.returns-clause-simple
returns-clause-simple c = simplify-simple

pub returns-clause-stays : goal.returns-clause-stays
returns-clause-stays c = simple-stays

pub returns-clause-bound : goal.returns-clause-bound
returns-clause-bound c = any-bound
