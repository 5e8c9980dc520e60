-- What a tidy formula keeps of the formula.
use Rattle.std.specs.Prelude.{ℕ, ◌≡◌, true, List}
use Rattle.soqe_term.specs.World.{World}
use Rattle.soqe_term.specs.Sorting.{Sorting}
use Rattle.soqe_form.specs.declared.form.Form.{Form}
use Rattle.soqe_form.specs.Truth.{truth}
use Rattle.soqe_form.specs.Sorted.{sorted}
use Rattle.soqe_form.specs.Free.{free, free_pred}
use Rattle.soqe_form.specs.FreeVars.{free_occurrences}
use Rattle.soqe_form.specs.Places.{has_blocks}
use Rattle.soqe_form.specs.Pure.{is_first_order}
use Rattle.soqe_form.specs.Same.{same}
use Rattle.soqe_tidy.specs.Tidy.{tidy}

-- it is the same up to the numbers of bound variables
abbrev pub TidyIsSame : Type 0
TidyIsSame = (keep : List ℕ) (f : Form) → same (tidy keep f) f ≡ true

-- it has the same truth in every world
abbrev pub TidyKeepsTruth : Type 0
TidyKeepsTruth = (keep : List ℕ) (f : Form) (w : World) → truth w (tidy keep f) ≡ truth w f

-- it is well sorted where the formula is
abbrev pub TidyKeepsSorts : Type 0
TidyKeepsSorts = (keep : List ℕ) (f : Form) (e : Sorting) → sorted e (tidy keep f) ≡ sorted e f

-- the same variables are free
abbrev pub TidyKeepsFree : Type 0
TidyKeepsFree = (keep : List ℕ) (f : Form) (n : ℕ) → free n (tidy keep f) ≡ free n f

-- the same bound predicates are free
abbrev pub TidyKeepsFreePreds : Type 0
TidyKeepsFreePreds = (keep : List ℕ) (f : Form) (n : ℕ) → free_pred n (tidy keep f) ≡ free_pred n f

-- the free occurrences of variables are the same ones in the same order
abbrev pub TidyKeepsOccurrences : Type 0
TidyKeepsOccurrences = (keep : List ℕ) (f : Form) → free_occurrences (tidy keep f) ≡ free_occurrences f

-- it has a quantifier of a predicate where the formula has one
abbrev pub TidyKeepsBlocks : Type 0
TidyKeepsBlocks = (keep : List ℕ) (f : Form) → has_blocks (tidy keep f) ≡ has_blocks f

-- it is of first order where the formula is
abbrev pub TidyKeepsOrder : Type 0
TidyKeepsOrder = (keep : List ℕ) (f : Form) → is_first_order (tidy keep f) ≡ is_first_order f

-- a tidy formula stays as it is
abbrev pub TidyIsTidy : Type 0
TidyIsTidy = (keep : List ℕ) (f : Form) → tidy keep (tidy keep f) ≡ tidy keep f
