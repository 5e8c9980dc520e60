use Rattle.std.proofs.Common.{◌∙◌, ◌≤◌, length, arith, length-take, length-append}
use Rattle.std.proofs.KnownBytes.{Consumes-trans}
use Rattle.std.proofs.lemmas.List.{take-append-le}
use Rattle.soqe_io.proofs.Known.{has_read_more}
use Rattle.soqe_io.proofs.read.read_into.Goals as goal

pub loop-done-preserved : goal.loop-done-preserved
loop-done-preserved g c =
    let fits : c.in-Ok.count ≤ length c.read.new.buf = c.in-Ok.ensures.bound.0 in (
      grind (arith, length-take),
      has_read_more _ _ _ _ _ _ _ _ _ _ (grind (arith, length-take)) c.loop-done.invariant.1 c.in-Ok.ensures.bytes.0
          (λ bytes h. rw take-append-le at (c.in-Ok-feed.ensures bytes h)),
      c.in-Ok.ensures.cause.quiet ∙ c.loop-done.invariant.2,
      c.in-Ok.ensures.goes_on (omega arith),
    )

pub returns-in-Err-feed-clause-within : goal.returns-in-Err-feed-clause-within
returns-in-Err-feed-clause-within g c = record {
  read = _;
  lost = Consumes-trans _ _ _ _ _ c.loop-done.invariant.1.lost c.in-Ok.ensures.bytes.0;
  short = grind (arith, length-append, length-take, c.loop-done.invariant.1.long);
}
