use Rattle.std.proofs.Common.{◌∙◌, length, sym, ap}
use Rattle.soqe_tidy.specs.Tidy.{tidy}
use Rattle.soqe_dls.proofs.FoldedForms.{tidy-case}
use Rattle.soqe_dls.proofs.tidy_case.tidy_case.Goals as goal

pub take_case-requires : goal.take_case-requires
take_case-requires c =
    let t = tidy-case c.args.keep.now c.args.case.vars c.args.case.conj in
    record {
      vars = t.vars;
      conj = t.conj;
      is = c.in_ok-form-2.ensures ∙ ap (tidy c.args.keep.now) c.in_ok-form.ensures ∙ t.is;
      as_many_vars = t.as_many_vars ∙ sym (ap length c.as_slice-variables.ensures);
      as_many = t.as_many ∙ sym c.len-conjuncts.ensures;
    }
