use Rattle.std.proofs.Common.{◌≡◌, ◌++◌, drop, string_bytes}
use Rattle.soqe_deriv.specs.Text.{lines_text}
use Rattle.soqe_deriv.proofs.write.write_lines.Given as goal

abbrev pub invariant-loop-line : goal.invariant-loop-line
invariant-loop-line l = string_bytes l.out ++ lines_text l.sig (drop l.line-index l.lines) ≡ string_bytes l.fn.out ++ lines_text l.sig l.lines
