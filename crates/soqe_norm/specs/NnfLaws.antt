-- What holds of negation normal forms.
use Rattle.std.specs.Prelude.{ℕ, ◌≡◌, Bool, true}
use Rattle.soqe_term.specs.World.{World}
use Rattle.soqe_term.specs.Sorting.{Sorting}
use Rattle.soqe_form.specs.declared.form.Form.{Form}
use Rattle.soqe_form.specs.Truth.{truth}
use Rattle.soqe_form.specs.Free.{free, free_pred}
use Rattle.soqe_form.specs.Sorted.{sorted}
use Rattle.soqe_form.specs.Places.{has_blocks}
use Rattle.soqe_norm.specs.Nnf.{nnf, is_nnf, signed}

-- the normal form has the truth of the formula, or of its negation, in every world
abbrev pub NnfKeepsTruth : Type 0
NnfKeepsTruth = (negated : Bool) (w : World) (f : Form) → truth w (nnf negated f) ≡ signed negated (truth w f)

-- it is in normal form
abbrev pub NnfIsNormal : Type 0
NnfIsNormal = (negated : Bool) (f : Form) → is_nnf (nnf negated f) ≡ true

-- it is well sorted exactly where the formula is
abbrev pub NnfKeepsSorts : Type 0
NnfKeepsSorts = (negated : Bool) (e : Sorting) (f : Form) → sorted e (nnf negated f) ≡ sorted e f

-- its free variables are those of the formula
abbrev pub NnfKeepsVariables : Type 0
NnfKeepsVariables = (n : ℕ) (negated : Bool) (f : Form) → free n (nnf negated f) ≡ free n f

-- its free bound predicates are those of the formula
abbrev pub NnfKeepsPredicates : Type 0
NnfKeepsPredicates = (n : ℕ) (negated : Bool) (f : Form) → free_pred n (nnf negated f) ≡ free_pred n f

-- it has a quantifier of a predicate exactly where the formula has one
abbrev pub NnfKeepsBlocks : Type 0
NnfKeepsBlocks = (negated : Bool) (f : Form) → has_blocks (nnf negated f) ≡ has_blocks f
