-- What is true of texts, their problems and their faults.
use Rattle.std.specs.Prelude.{◌≡◌, ℕ, List, Option, ◌⊎◌}
use Rattle.soqe_lex.specs.declared.token.Token.{Token}
use Rattle.soqe_lex.specs.Lexical.{Lexed}
use Rattle.soqe_syntax.specs.declared.piece.Span.{Span}
use Rattle.soqe_syntax.specs.Grammar.{Problem}
use Rattle.soqe_syntax.specs.Pieces.{HasProblem}
use Rattle.soqe_parse.specs.Faults.{IsFaultAt}

-- A text has at most one problem.
abbrev pub OneProblem : Type 0
OneProblem = (bytes : List ℕ) (p q : Problem Span) → HasProblem bytes p → HasProblem bytes q → p ≡ q

-- A text with a syntax fault has no problem.
abbrev pub FaultOrProblem : Type 0
FaultOrProblem = (bytes : List ℕ) (at : ℕ) (p : Problem Span) → IsFaultAt bytes at → HasProblem bytes p → ⊥

-- A text has its syntax fault at one offset.
abbrev pub OnePlace : Type 0
OnePlace = (bytes : List ℕ) (at other : ℕ) → IsFaultAt bytes at → IsFaultAt bytes other → at ≡ other

-- A text that falls into tokens has a problem or a syntax fault.
abbrev pub ProblemOrFault : Type 0
ProblemOrFault = (bytes : List ℕ) (tokens : List Token) (stop : Option ℕ) → Lexed 0 bytes tokens stop → ((p : Problem Span) × HasProblem bytes p) ⊎ ((at : ℕ) × IsFaultAt bytes at)
