use Rattle.std.proofs.Common.{ℕ, Bool, not, ◌||◌, ◌&&◌, List, ◌∙◌, length, map, sym, ap, subst}
use Rattle.std.proofs.lemmas.List.{length-map}
use Rattle.soqe_term.specs.declared.term.Var.{Var}
use Rattle.soqe_number.specs.Unused.{member}
use Rattle.soqe_form.specs.Free.{free}
use Rattle.soqe_form.specs.FreeVars.{is_among}
use Rattle.soqe_number.specs.Marks.{marked}
use Rattle.soqe_form.specs.Mentions.{depth}
use Rattle.soqe_subst.specs.Substitution.{sub}
use Rattle.soqe_tidy.specs.Tidy.{tidy}
use Rattle.soqe_ack.specs.Acked.{AreParameters}
use Rattle.soqe_dls.specs.ShownCases.{by_vars}
use Rattle.soqe_dls.proofs.NewParameters.{parameters-many}
use Rattle.soqe_dls.proofs.shown_value.shown.Goals as goal

pub bind_each-requires-clause-as_many : goal.bind_each-requires-clause-as_many
bind_each-requires-clause-as_many c =
    ap length c.as_slice-3.ensures ∙ parameters-many (marked c.in_ok-used.used) (map (λ x. x.sort) c.as_slice.result.now) c.in_ok-new.new c.in_ok-new.ensures
    ∙ length-map c.as_slice.result.now (λ x. x.sort) ∙ ap length (c.as_slice.ensures ∙ sym c.as_slice-2.ensures)

pub returns : goal.returns
returns c = record {
  numbers =
      subst (λ (xs : List Var). AreParameters (λ n. member n c.args.keep.now || (free n c.args.value.now && not (is_among c.args.params.now n))) (map (λ x. x.sort) xs) c.in_ok-new.new) c.as_slice.ensures
      (subst (λ (u : ℕ → Bool). AreParameters u (map (λ x. x.sort) c.as_slice.result.now) c.in_ok-new.new) c.in_ok-used.ensures c.in_ok-new.ensures);
  shown =
      c.in_ok-tidied.ensures ∙ ap (tidy c.args.keep.now) (c.in_ok-replaced.ensures.exact
      ∙ ap (λ s. sub (depth c.args.value.now) s c.args.value.now) (c.in_ok-binding.ensures ∙ (λ i. by_vars (c.as_slice-2.ensures i) (c.as_slice-3.ensures i))));
}
