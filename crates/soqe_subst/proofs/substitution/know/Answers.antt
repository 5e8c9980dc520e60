use Rattle.std.proofs.Common.{subst}
use Rattle.soqe_number.specs.Tallies.{IsRightAlways}
use Rattle.soqe_number.proofs.Tallied.{knows-now}
use Rattle.soqe_subst.specs.Standing.{standing}
use Rattle.soqe_subst.specs.Substitutes.{seen, left_of}
use Rattle.soqe_subst.proofs.substitution.know.Goals as goal

pub returns-in_ok-tally-clause-tally : goal.returns-in_ok-tally-clause-tally
returns-in_ok-tally-clause-tally c =
    knows-now (standing (seen c.args.binding.now c.args.walk.now) (left_of c.args.walk.now c.args.form.now)) c.args.tally.now c.in_ok-tally.field-0
    (subst (λ ns. IsRightAlways ns c.in_ok-tally.field-0) c.in_ok-nums.ensures.nums c.in_ok-tally.ensures)
