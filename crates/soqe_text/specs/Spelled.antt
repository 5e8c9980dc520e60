-- The problem that a text spells, and the places where a text that has a shape is refused.
use Rattle.std.specs.Prelude.{◌≡◌, ℕ, List, Some, None, Result, Ok, Err}
use Rattle.soqe_syntax.specs.declared.piece.Span.{Span}
use Rattle.soqe_syntax.specs.Grammar as syntax
use Rattle.soqe_syntax.specs.Pieces.{HasProblem}
use Rattle.soqe_signature.specs.Declarations.{Declaration}
use Rattle.soqe_text.specs.declared.problem.Problem.{Problem}
use Rattle.soqe_text.specs.declared.problem.Problem.TheVariants as problem
use Rattle.soqe_text.specs.declared.lexing.TextFault.{TextFault}
use Rattle.soqe_text.specs.declared.lexing.TextFault.TheVariants as fault
use Rattle.soqe_text.specs.Naming.{named_problem}
use Rattle.soqe_text.specs.Uses.{wrong_in_problem, free_sorts}
use Rattle.soqe_text.specs.Numbering.{numbered}

-- A text has a shape whose names are all known, with these declarations and names.
pub record IsNamed (bytes : List ℕ) (ds : List Declaration) (tree : syntax.Problem Span) : Type 0 where
  pub shape : HasProblem bytes tree
  pub named : named_problem bytes tree ≡ Ok ds

-- A text spells a problem: its names are known and used rightly, and the problem is its shape with their numbers.
pub record Spells (bytes : List ℕ) (p : Problem) : Type 0 where
  pub tree : syntax.Problem Span
  pub declared : List Declaration
  pub well_named : IsNamed bytes declared tree
  pub well_sorted : wrong_in_problem bytes declared tree ≡ None
  pub numbered : p ≡ problem.Elim declared (numbered bytes declared (free_sorts declared) tree.goal)

-- The first refused name of a text that has a shape begins here.
pub record HasNameFault (bytes : List ℕ) (at : ℕ) : Type 0 where
  pub tree : syntax.Problem Span
  pub shape : HasProblem bytes tree
  pub refused : named_problem bytes tree ≡ Err at

-- All names of a text are known, and the first one that is used wrongly, or the first sign between two sorts, begins here.
pub record HasSortFault (bytes : List ℕ) (at : ℕ) : Type 0 where
  pub tree : syntax.Problem Span
  pub declared : List Declaration
  pub well_named : IsNamed bytes declared tree
  pub refused : wrong_in_problem bytes declared tree ≡ Some at

-- what holds of the place of a refused name
abbrev pub OnNames : {T : Type 0} → Result T TextFault → (ℕ → Type 0) → Type 0
OnNames (Err (fault.Names at)) P = P at
OnNames _ P = Unit {0}

-- what holds of the place of a refused use
abbrev pub OnSorts : {T : Type 0} → Result T TextFault → (ℕ → Type 0) → Type 0
OnSorts (Err (fault.Sorts at)) P = P at
OnSorts _ P = Unit {0}
