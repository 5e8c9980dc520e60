use Rattle.std.proofs.Common.{◌-◌, ◌≤◌, length}
use Rattle.soqe_lex.proofs.Lexing.{SoFar}
use Rattle.soqe_lex.proofs.lexer.lexemes.Given as goal

abbrev pub invariant-loop-at : goal.invariant-loop-at
invariant-loop-at l = record { within : l.at ≤ length l.bytes; so_far : SoFar l.bytes l.tokens l.at }

abbrev pub decreases-loop-at : goal.decreases-loop-at
decreases-loop-at l = length l.bytes - l.at
