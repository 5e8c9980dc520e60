-- Well sorted problems.
use Rattle.std.specs.Prelude.{◌≡◌, true}
use Rattle.soqe_signature.specs.Declarations.{sorting_of}
use Rattle.soqe_form.specs.Sorted.{sorted}
use Rattle.soqe_text.specs.declared.problem.Problem.{Problem}
use Rattle.soqe_text.specs.declared.problem.Problem.TheVariants as problem

-- A problem's goal uses each name as the signature says.
abbrev pub IsSorted : Problem → Type 0
IsSorted (problem.Elim ds goal) = sorted (sorting_of ds) goal ≡ true
