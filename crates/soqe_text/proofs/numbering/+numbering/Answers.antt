use Rattle.std.proofs.Common.{◌∙◌, ap, sym, arith}
use Rattle.soqe_syntax.specs.Shapes.{view}
use Rattle.soqe_text.specs.Bare.{negations}
use Rattle.soqe_text.specs.Lookups.{names_of, places}
use Rattle.soqe_text.proofs.Refusals.{passed_on}
use Rattle.soqe_text.proofs.Wrapped.{weight-within, wrong-within, numbered-within}
use Rattle.soqe_text.proofs.numbering.+numbering.Goals as goal

pub numbered-numbered_bare-requires : goal.numbered-numbered_bare-requires
numbered-numbered_bare-requires t c =
    let within = weight-within (view c.args.shape.now) (view c.bare-count.result.1.now) c.bare-count.result.0 c.bare-count.ensures in
    omega (arith, within)

pub numbered-returns-in_err-f-clause-refused : goal.numbered-returns-in_err-f-clause-refused
numbered-returns-in_err-f-clause-refused t c =
    let inner = view c.bare-count.result.1.now in
    let same = wrong-within c.args.bytes.now (names_of c.args.look.now) (places c.args.vars.now) (places c.args.preds.now) (view c.args.shape.now) inner c.bare-count.result.0 c.bare-count.ensures in
    passed_on c.numbered_bare.result c.from_residual.result c.in_err-f.field-0.0 _ _ c.in_err-f.was c.from_residual.ensures.1 c.numbered_bare.ensures.refused (λ at h. same ∙ h)

pub numbered-returns-clause-right : goal.numbered-returns-clause-right
numbered-returns-clause-right t c =
    let inner = view c.bare-count.result.1.now in
    let same = wrong-within c.args.bytes.now (names_of c.args.look.now) (places c.args.vars.now) (places c.args.preds.now) (view c.args.shape.now) inner c.bare-count.result.0 c.bare-count.ensures in
    same ∙ c.in_ok-f.ensures.right

pub numbered-returns-clause-form : goal.numbered-returns-clause-form
numbered-returns-clause-form t c =
    let count = c.bare-count.result.0 in
    let same = numbered-within c.args.bytes.now (names_of c.args.look.now) (places c.args.vars.now) (view c.args.shape.now) (view c.bare-count.result.1.now) count c.bare-count.ensures in
    c.in_ok-negations.ensures ∙ ap (negations count) c.in_ok-f.ensures.form ∙ sym same
