use Rattle.std.proofs.Common.{◌≡◌, ◌++◌, map, length}
use Rattle.std.specs.Vec.Iter.{into_iter_items, into_iter_len}
use Rattle.soqe_deriv.specs.declared.document.Line.TheVariants as line
use Rattle.soqe_flow.proofs.cases_blocks.write_steps.Given as goal

abbrev pub invariant-loop-step : goal.invariant-loop-step
invariant-loop-step l =
    (l.lines ++ map line.Dls (into_iter_items l.step-iterator) ≡ l.fn.lines ++ map line.Dls l.fn.steps)
    × (into_iter_len l.step-iterator ≡ length (into_iter_items l.step-iterator))
