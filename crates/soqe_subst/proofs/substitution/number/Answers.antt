use Rattle.soqe_number.proofs.Tallied.{finds-known}
use Rattle.soqe_subst.proofs.substitution.number.Goals as goal

pub returns-clause-number : goal.returns-clause-number
returns-clause-number c = finds-known _ _ _ _ _ _ c.in_ok-know.ensures.tally c.least-num.ensures.least c.least-num.ensures.same
