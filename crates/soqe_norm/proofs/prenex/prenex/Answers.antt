use Rattle.std.proofs.Common.{◌∙◌, List, ℕ, ap, subst}
use Rattle.std.proofs.lemmas.Result.{IfOk-weaker}
use Rattle.soqe_norm.specs.Apart.{IsApart}
use Rattle.soqe_norm.specs.Prenex.{pulled}
use Rattle.soqe_norm.proofs.prenex.prenex.Goals as goal

pub returns : goal.returns
returns c = record {
  exact = IfOk-weaker c.pulled.result _ _
      (λ r h. record {
        apart = c.in_ok-distinct.distinct;
        distinct = subst (λ (keep : List ℕ). IsApart keep c.args.form.now c.in_ok-distinct.distinct) c.new-keep.ensures c.in_ok-distinct.ensures.exact;
        is = h ∙ ap pulled c.get.ensures;
      })
      c.pulled.ensures;
}
