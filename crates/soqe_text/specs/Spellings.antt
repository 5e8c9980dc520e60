-- What is true of texts and the problems that they spell: a text is exactly one of four.
use Rattle.std.specs.Prelude.{◌≡◌, ◌⊎◌, ℕ, List}
use Rattle.soqe_syntax.specs.declared.piece.Span.{Span}
use Rattle.soqe_syntax.specs.Grammar as syntax
use Rattle.soqe_syntax.specs.Pieces.{HasProblem}
use Rattle.soqe_parse.specs.Faults.{IsFaultAt}
use Rattle.soqe_text.specs.declared.problem.Problem.{Problem}
use Rattle.soqe_text.specs.Spelled.{Spells, HasNameFault, HasSortFault}
use Rattle.soqe_text.specs.Sorted.{IsSorted}

-- A problem that a text spells is well sorted.
abbrev pub SpelledIsSorted : Type 0
SpelledIsSorted = (bytes : List ℕ) (p : Problem) → Spells bytes p → IsSorted p

-- A text spells at most one problem.
abbrev pub OneSpelled : Type 0
OneSpelled = (bytes : List ℕ) (p q : Problem) → Spells bytes p → Spells bytes q → p ≡ q

-- A text that spells a problem has no syntax fault, no refused name and no wrong use.
abbrev pub SpelledAlone : Type 0
SpelledAlone = (bytes : List ℕ) (p : Problem) (at : ℕ) → Spells bytes p → (IsFaultAt bytes at ⊎ (HasNameFault bytes at ⊎ HasSortFault bytes at)) → ⊥

-- A text is not refused for two reasons.
abbrev pub OneReason : Type 0
OneReason = (bytes : List ℕ) (at other : ℕ) → (IsFaultAt bytes at → (HasNameFault bytes other ⊎ HasSortFault bytes other) → ⊥) × (HasNameFault bytes at → HasSortFault bytes other → ⊥)

-- A text with a shape spells a problem, or a name of it is refused, or used wrongly.
abbrev pub ShapeReads : Type 0
ShapeReads = (bytes : List ℕ) (t : syntax.Problem Span) → HasProblem bytes t
    → ((p : Problem) × Spells bytes p) ⊎ (((at : ℕ) × HasNameFault bytes at) ⊎ ((at : ℕ) × HasSortFault bytes at))
