use Rattle.std.proofs.Common.{ℕ, List, subst}
use Rattle.soqe_number.specs.Unused.{member}
use Rattle.soqe_number.specs.Marks.{Adds}
use Rattle.soqe_dls.proofs.NewParameters.{used-marks}
use Rattle.soqe_dls.proofs.shown_value.used_numbers.Goals as goal

pub returns : goal.returns
returns c =
    used-marks c.args.keep.now c.args.params.now c.args.value.now c.in_ok-used.used c.mark_numbers.new.marks c.in_ok-used.ensures
    (subst (λ (keep : List ℕ). Adds (λ n. member n keep) c.in_ok-used.used c.mark_numbers.new.marks) c.as_slice.ensures c.in_ok-mark_numbers.ensures)
