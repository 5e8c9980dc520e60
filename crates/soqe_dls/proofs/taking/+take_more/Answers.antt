use Rattle.std.proofs.Common.{◌+◌, ◌-◌, ◌∙◌, sym, ap, arith}
use Rattle.soqe_norm.specs.Folds.{all_of}
use Rattle.soqe_norm.proofs.FoldedParts.{all_of-push}
use Rattle.soqe_dls.proofs.FoldedForms.{joined-is-conjunction, joined-front}
use Rattle.soqe_dls.proofs.taking.+take_more.Goals as goal

pub sides-rest-requires : goal.sides-rest-requires
sides-rest-requires t c = joined-is-conjunction (c.args.count + 1) c.args.form c.requires (omega arith)

pub take_more-requires : goal.take_more-requires
take_more-requires t c = (
  omega arith,
  joined-front (c.args.count + 1) c.args.form c.requires (omega arith) (c.args.count - 1 + 1) (omega arith) c.sides-rest.result.0 c.sides-rest.result.1 c.sides-rest.ensures,
)

pub returns-clause-is : goal.returns-clause-is
returns-clause-is t c =
    all_of-push c.args.form c.sides-rest.result.0 c.sides-rest.result.1 c.in_ok-conj.conj c.sides-rest.ensures c.in_ok-conj.ensures.is (omega (arith, c.in_ok-conj.ensures.as_many))
    ∙ ap all_of (sym c.in_ok-push.ensures.ok)
