-- What holds of a formula with distinct bound variables.
use Rattle.std.specs.Prelude.{ℕ, ◌≡◌, ◌≢◌, true, false, List, All, AllPairs}
use Rattle.soqe_term.specs.World.{World}
use Rattle.soqe_term.specs.Sorting.{Sorting}
use Rattle.soqe_number.specs.Unused.{member}
use Rattle.soqe_form.specs.declared.form.Form.{Form}
use Rattle.soqe_form.specs.Truth.{truth}
use Rattle.soqe_form.specs.Free.{free, free_pred}
use Rattle.soqe_form.specs.Sorted.{sorted}
use Rattle.soqe_form.specs.Places.{has_blocks}
use Rattle.soqe_form.specs.Same.{same}
use Rattle.soqe_norm.specs.Nnf.{is_nnf}
use Rattle.soqe_norm.specs.Apart.{IsApart, binders}

-- it is the same as the formula, up to the numbers of bound variables
abbrev pub ApartIsSame : Type 0
ApartIsSame = (keep : List ℕ) (f made : Form) → IsApart keep f made → same made f ≡ true

-- it has the truth of the formula in every world
abbrev pub ApartKeepsTruth : Type 0
ApartKeepsTruth = (keep : List ℕ) (f made : Form) → IsApart keep f made → (w : World) → truth w made ≡ truth w f

-- it is well sorted exactly where the formula is
abbrev pub ApartKeepsSorts : Type 0
ApartKeepsSorts = (keep : List ℕ) (f made : Form) → IsApart keep f made → (e : Sorting) → sorted e made ≡ sorted e f

-- its binders have distinct numbers
abbrev pub ApartIsDistinct : Type 0
ApartIsDistinct = (keep : List ℕ) (f made : Form) → IsApart keep f made → AllPairs (λ m n. m ≢ n) (binders made)

-- no number of a binder is to be kept out
abbrev pub ApartAvoids : Type 0
ApartAvoids = (keep : List ℕ) (f made : Form) → IsApart keep f made → All (λ n. member n keep ≡ false) (binders made)

-- no number of a binder is free in it
abbrev pub ApartFromFree : Type 0
ApartFromFree = (keep : List ℕ) (f made : Form) → IsApart keep f made → All (λ n. free n made ≡ false) (binders made)

-- its free variables are those of the formula
abbrev pub ApartKeepsVariables : Type 0
ApartKeepsVariables = (keep : List ℕ) (f made : Form) → IsApart keep f made → (n : ℕ) → free n made ≡ free n f

-- its free bound predicates are those of the formula
abbrev pub ApartKeepsPredicates : Type 0
ApartKeepsPredicates = (keep : List ℕ) (f made : Form) → IsApart keep f made → (n : ℕ) → free_pred n made ≡ free_pred n f

-- a normal form stays one
abbrev pub ApartKeepsNormal : Type 0
ApartKeepsNormal = (keep : List ℕ) (f made : Form) → IsApart keep f made → is_nnf made ≡ is_nnf f

-- no quantifier of a predicate comes or goes
abbrev pub ApartKeepsBlocks : Type 0
ApartKeepsBlocks = (keep : List ℕ) (f made : Form) → IsApart keep f made → has_blocks made ≡ has_blocks f
