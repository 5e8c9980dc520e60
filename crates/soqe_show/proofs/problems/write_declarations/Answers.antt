use Rattle.std.proofs.Common.{string_bytes}
use Rattle.soqe_show.proofs.Declared.{one_line}
use Rattle.soqe_show.proofs.problems.write_declarations.Goals as goal

pub loop-place-preserved : goal.loop-place-preserved
loop-place-preserved c =
    one_line c.args.sig.now (string_bytes c.loop-place.out) _ _ c.loop-place.place c.in_ok-write_declaration_at.ensures c.loop-place.invariant
