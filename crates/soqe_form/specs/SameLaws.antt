-- What formulas have in common that are the same up to the numbers of their bound variables and bound predicates.
use Rattle.std.specs.Prelude.{ℕ, ◌≡◌, true}
use Rattle.soqe_term.specs.World.{World}
use Rattle.soqe_term.specs.Sorting.{Sorting}
use Rattle.soqe_form.specs.declared.form.Form.{Form}
use Rattle.soqe_form.specs.Truth.{truth}
use Rattle.soqe_form.specs.Sorted.{sorted}
use Rattle.soqe_form.specs.Free.{free, free_pred}
use Rattle.soqe_form.specs.Places.{has_blocks}
use Rattle.soqe_form.specs.Pure.{is_first_order}
use Rattle.soqe_form.specs.Same.{same}

-- they have one truth in every world
abbrev pub SameHasTruth : Type 0
SameHasTruth = (f g : Form) → same f g ≡ true → (w : World) → truth w f ≡ truth w g

-- they are well sorted together
abbrev pub SameIsSorted : Type 0
SameIsSorted = (f g : Form) → same f g ≡ true → (e : Sorting) → sorted e f ≡ sorted e g

-- a formula is the same as itself
abbrev pub SameIsReflexive : Type 0
SameIsReflexive = (f : Form) → same f f ≡ true

-- equal formulas are the same
abbrev pub EqualIsSame : Type 0
EqualIsSame = (f g : Form) → f ≡ g → same f g ≡ true

-- the order of the two formulas does not matter
abbrev pub SameIsSymmetric : Type 0
SameIsSymmetric = (f g : Form) → same f g ≡ same g f

-- two formulas that are the same as a third one are the same
abbrev pub SameIsTransitive : Type 0
SameIsTransitive = (f g h : Form) → same f g ≡ true → same g h ≡ true → same f h ≡ true

-- they have the same free variables
abbrev pub SameHasFree : Type 0
SameHasFree = (f g : Form) → same f g ≡ true → (n : ℕ) → free n f ≡ free n g

-- they have the same free bound predicates
abbrev pub SameHasFreePreds : Type 0
SameHasFreePreds = (f g : Form) → same f g ≡ true → (n : ℕ) → free_pred n f ≡ free_pred n g

-- both have a quantifier of a predicate, or neither has
abbrev pub SameHasBlocks : Type 0
SameHasBlocks = (f g : Form) → same f g ≡ true → has_blocks f ≡ has_blocks g

-- both are of first order, or neither is
abbrev pub SameIsFirstOrder : Type 0
SameIsFirstOrder = (f g : Form) → same f g ≡ true → is_first_order f ≡ is_first_order g
