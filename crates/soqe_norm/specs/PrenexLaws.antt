-- What holds of a formula whose quantifiers stand in front.
use Rattle.std.specs.Prelude.{ℕ, ◌≡◌, ◌<◌, true, false}
use Rattle.soqe_term.specs.World.{World}
use Rattle.soqe_term.specs.Sorting.{Sorting}
use Rattle.soqe_form.specs.declared.form.Form.{Form}
use Rattle.soqe_form.specs.Truth.{truth}
use Rattle.soqe_form.specs.Free.{free, free_pred}
use Rattle.soqe_form.specs.Sorted.{sorted}
use Rattle.soqe_form.specs.Places.{has_blocks}
use Rattle.soqe_norm.specs.Nnf.{is_nnf}
use Rattle.soqe_norm.specs.Prenex.{IsPrenexed, is_prenex}

-- it has the truth of the formula in every world in which no sort is empty
abbrev pub PrenexKeepsTruth : Type 0
PrenexKeepsTruth = (f made : Form) → IsPrenexed f made → (w : World) → ((s : ℕ) → 0 < w.size s) → truth w made ≡ truth w f

-- of a normal form without quantifiers of predicates, all quantifiers stand in front
abbrev pub PrenexIsPrenex : Type 0
PrenexIsPrenex = (f made : Form) → IsPrenexed f made → is_nnf f ≡ true → has_blocks f ≡ false → is_prenex made ≡ true

-- it is well sorted exactly where the formula is
abbrev pub PrenexKeepsSorts : Type 0
PrenexKeepsSorts = (f made : Form) → IsPrenexed f made → (e : Sorting) → sorted e made ≡ sorted e f

-- its free variables are those of the formula
abbrev pub PrenexKeepsVariables : Type 0
PrenexKeepsVariables = (f made : Form) → IsPrenexed f made → (n : ℕ) → free n made ≡ free n f

-- its free bound predicates are those of the formula
abbrev pub PrenexKeepsPredicates : Type 0
PrenexKeepsPredicates = (f made : Form) → IsPrenexed f made → (n : ℕ) → free_pred n made ≡ free_pred n f

-- it has a quantifier of a predicate exactly where the formula has one
abbrev pub PrenexKeepsBlocks : Type 0
PrenexKeepsBlocks = (f made : Form) → IsPrenexed f made → has_blocks made ≡ has_blocks f
