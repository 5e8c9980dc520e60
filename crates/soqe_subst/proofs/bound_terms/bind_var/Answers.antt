use Rattle.std.proofs.Common.{Some, None, sym, ap, ◌∙◌}
use Rattle.std.proofs.lemmas.Result.{IfOk-weaker}
use Rattle.std.specs.Option.{unwrap_or}
use Rattle.soqe_term.specs.declared.term.Term.{Var as var}
use Rattle.soqe_number.specs.Marks.{marked}
use Rattle.soqe_subst.specs.NewVars.{new_var}
use Rattle.soqe_subst.proofs.Visibles.{term_of-renewed, term_of-own}
use Rattle.soqe_subst.proofs.bound_terms.bind_var.Goals as goal

pub returns-then-has : goal.returns-then-has
returns-then-has c apart =
    ap var (c.unwrap_or-z.ensures ∙ ap (λ o. unwrap_or o c.args.y) c.of.ensures)
    ∙ term_of-renewed (marked c.args.hidden.now) (new_var c.args.renamed.now) c.args.binding.now c.args.y (sym c.has.ensures ∙ c.if-has.true) apart

pub returns-in-Some : goal.returns-in-Some
returns-in-Some c =
    IfOk-weaker c.copy.result _ _
    (λ r e apart.
    e ∙ term_of-own (marked c.args.hidden.now) (new_var c.args.renamed.now) c.args.binding.now c.args.y (Some c.in-Some.term.now) (sym c.has.ensures ∙ c.if-has.false) c.in-Some.ensures apart)
    c.copy.ensures

pub returns-in-None : goal.returns-in-None
returns-in-None c apart =
    term_of-own (marked c.args.hidden.now) (new_var c.args.renamed.now) c.args.binding.now c.args.y None (sym c.has.ensures ∙ c.if-has.false) c.in-None.ensures apart
