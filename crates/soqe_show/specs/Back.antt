-- What is printed is read back.
use Rattle.std.specs.Prelude.{◌≡◌, ℕ, List}
use Rattle.soqe_syntax.specs.declared.piece.Span.{Span}
use Rattle.soqe_syntax.specs.Grammar as syntax
use Rattle.soqe_syntax.specs.Grammar.{IsLevelled}
use Rattle.soqe_syntax.specs.Pieces.{HasProblem}
use Rattle.soqe_text.specs.declared.problem.Problem.{Problem}
use Rattle.soqe_text.specs.Spelled.{Spells}
use Rattle.soqe_show.specs.Dress.{dress_problem, problem_text}
use Rattle.soqe_show.specs.Placed.{texts_problem, AreWords_problem}

-- A text that has a shape whose names are those that are printed for a problem spells the problem, if some text does.
abbrev pub SpellsBack : Type 0
SpellsBack =
    (bytes text : List ℕ) (p : Problem) (places : syntax.Problem Span) → Spells bytes p → HasProblem text places → texts_problem text places ≡ dress_problem p → Spells text p

-- In the tree that is printed for a problem no operand is looser than its place.
abbrev pub PrintedIsLevelled : Type 0
PrintedIsLevelled = (p : Problem) → IsLevelled (dress_problem p).goal

-- Each name that is printed for a problem that some text spells is a word, and each equation has its sign.
abbrev pub PrintedHasWords : Type 0
PrintedHasWords = (bytes : List ℕ) (p : Problem) → Spells bytes p → AreWords_problem (dress_problem p)

-- The printed text of a problem that some text spells spells the problem.
abbrev pub ReadsBack : Type 0
ReadsBack = (bytes : List ℕ) (p : Problem) → Spells bytes p → Spells (problem_text p) p

-- A text spells a problem, if some text does.
abbrev pub SpellsWhereSome : List ℕ → Problem → Type 0
SpellsWhereSome text p = (bytes : List ℕ) → Spells bytes p → Spells text p
