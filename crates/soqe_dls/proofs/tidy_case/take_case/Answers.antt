use Rattle.soqe_dls.proofs.FoldedForms.{below-joins}
use Rattle.soqe_dls.proofs.tidy_case.take_case.Goals as goal

pub take_conjuncts-requires : goal.take_conjuncts-requires
take_conjuncts-requires c = below-joins c.args.variables c.args.conjuncts c.args.form c.in_ok-vars.vars c.in_ok-vars.body c.requires c.in_ok-vars.ensures.is c.in_ok-vars.ensures.as_many
