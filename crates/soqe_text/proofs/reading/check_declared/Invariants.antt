use Rattle.std.proofs.Common.{◌≡◌, map, drop}
use Rattle.soqe_syntax.specs.Shapes.{declared_view}
use Rattle.soqe_text.specs.Uses.{wrong_in_declared}
use Rattle.soqe_text.proofs.reading.check_declared.Given as goal

abbrev pub invariant-loop-item : goal.invariant-loop-item
invariant-loop-item l = wrong_in_declared l.bytes l.sig (map declared_view l.items) ≡ wrong_in_declared l.bytes l.sig (map declared_view (drop l.item-index l.items))
