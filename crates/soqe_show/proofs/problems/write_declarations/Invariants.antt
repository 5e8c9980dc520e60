use Rattle.std.proofs.Common.{◌≡◌, ◌++◌, drop, string_bytes}
use Rattle.soqe_show.specs.Dress.{behind_obj}
use Rattle.soqe_show.proofs.Declared.{lines_from}
use Rattle.soqe_show.proofs.problems.write_declarations.Given as goal

abbrev pub invariant-loop-place : goal.invariant-loop-place
invariant-loop-place l = string_bytes l.out ++ lines_from l.sig (drop l.place l.sig) ≡ string_bytes l.fn.out ++ lines_from l.sig (behind_obj l.sig)
