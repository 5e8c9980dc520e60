use Rattle.std.proofs.Common.{◌≡◌, [], map, take}
use Rattle.soqe_syntax.specs.Pieces.{piece_of}
use Rattle.soqe_parse.specs.Machine.{Want, run}
use Rattle.soqe_parse.specs.Stack.{state_of}
use Rattle.soqe_parse.proofs.read_form.form_ran.Given as goal

abbrev pub invariant-loop-n : goal.invariant-loop-n
invariant-loop-n l = state_of l.stack.items l.mode ≡ run (Want []) (map (piece_of l.bytes) (take l.n l.tokens))
