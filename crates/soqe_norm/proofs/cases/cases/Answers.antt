use Rattle.std.proofs.Common.{◌∙◌}
use Rattle.soqe_norm.proofs.CaseTruth.{alike-are}
use Rattle.soqe_norm.proofs.cases.cases.Goals as goal

pub returns-clause-exact : goal.returns-clause-exact
returns-clause-exact c = record {
  apart = c.in_ok-distinct.distinct;
  distinct = c.in_ok-distinct.ensures.exact;
  are = c.of.ensures ∙ c.in_ok-items.ensures;
}

pub returns-clause-truth : goal.returns-clause-truth
returns-clause-truth c = alike-are c.args.keep.now c.args.pred.now c.args.form.now c.of.result (returns-clause-exact c)
