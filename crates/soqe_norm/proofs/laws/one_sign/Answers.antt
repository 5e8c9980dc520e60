use Rattle.soqe_norm.proofs.Occurrences.{pos-is-sign, neg-is-sign}
use Rattle.soqe_norm.proofs.laws.one_sign.Goals as goal

pub returns-clause-pos : goal.returns-clause-pos
returns-clause-pos c = pos-is-sign

pub returns-clause-neg : goal.returns-clause-neg
returns-clause-neg c = neg-is-sign
