use Rattle.std.proofs.Common.{◌∙◌, ℕ, arith, length-take, length-drop}
use Rattle.soqe_io.proofs.Known.{appends_piece}
use Rattle.soqe_io.proofs.write.write_whole.Goals as goal

pub loop-done-preserved : goal.loop-done-preserved
loop-done-preserved g c = (
  omega (arith, length-take {A = ℕ}, length-drop {A = ℕ}, c.in_ok-count.ensures.bound),
  appends_piece _ _ _ _ _ _ _ c.loop-done.invariant.1 c.in_ok-count.ensures.bound c.in_ok-count.ensures.bytes,
  c.in_ok-count.ensures.cause.quiet ∙ c.loop-done.invariant.2,
  c.in_ok-count.ensures.goes_on,
)
