use Rattle.std.proofs.Common.{◌≡◌, [], map, take}
use Rattle.soqe_syntax.specs.Pieces.{piece_of}
use Rattle.soqe_parse.specs.Items.{Between, run}
use Rattle.soqe_parse.specs.Stages.{stage_of}
use Rattle.soqe_parse.proofs.read.ran.Given as goal

abbrev pub invariant-loop-n : goal.invariant-loop-n
invariant-loop-n l = stage_of l.items l.stage ≡ run (Between []) (map (piece_of l.bytes) (take l.n l.tokens))
