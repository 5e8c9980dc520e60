use Rattle.soqe_term.specs.Renumber.{renames}
use Rattle.soqe_tidy.proofs.TidyBinders.{larger-left, larger-right}
use Rattle.soqe_tidy.proofs.tidying.part.Goals as goal

pub returns-in_ok-leave-clause-tallies : goal.returns-in_ok-leave-clause-tallies
returns-in_ok-leave-clause-tallies c =
    larger-right c.args.kept.now (renames c.args.by.now) c.args.f.now c.args.g.now c.args.tally.now c.leave.new.tally c.in_ok-leave.ensures

pub returns-in_ok-leave-2-clause-tallies : goal.returns-in_ok-leave-2-clause-tallies
returns-in_ok-leave-2-clause-tallies c =
    larger-left c.args.kept.now (renames c.args.by.now) c.args.f.now c.args.g.now c.args.tally.now c.leave-else-split.new.tally c.in_ok-leave-2.ensures
