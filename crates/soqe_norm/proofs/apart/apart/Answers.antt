use Rattle.std.proofs.Common.{◌≡◌, length, ap, arith}
use Rattle.std.proofs.lemmas.Result.{IfOk-weaker}
use Rattle.soqe_number.specs.Unused.{member}
use Rattle.soqe_term.specs.Renumber.{renames}
use Rattle.soqe_norm.specs.Apart.{binders, taken_first}
use Rattle.soqe_norm.proofs.Aparts.{choices-length}
use Rattle.soqe_norm.proofs.Choosing.{apart_made}
use Rattle.soqe_norm.proofs.apart.apart.Goals as goal

pub renumber-requires : goal.renumber-requires
renumber-requires c =
    let sizes : length c.in_ok-numbers.numbers ≡ length (binders c.args.form.now) =
    choices-length (taken_first c.args.keep.now c.args.form.now) (λ n. member n (binders c.args.form.now)) (binders c.args.form.now) c.in_ok-numbers.numbers c.in_ok-numbers.ensures in
    omega (arith, sizes, ap length c.as_slice.ensures)

pub returns : goal.returns
returns c = record {
  exact = IfOk-weaker c.renumber.result _ _
      (λ r h. apart_made c.args.keep.now c.args.form.now c.in_ok-numbers.numbers c.as_slice.result.now (renames c.new-by.result) r c.in_ok-numbers.ensures c.as_slice.ensures c.new-by.ensures h)
      c.renumber.ensures.exact;
}
