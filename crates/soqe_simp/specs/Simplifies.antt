-- What holds of a formula f and the simple formula g that is made of it.
use Rattle.std.specs.Prelude.{ℕ, ◌≡◌, ◌≤◌, true}
use Rattle.soqe_term.specs.Sorting.{Sorting}
use Rattle.soqe_form.specs.declared.form.Form.{Form}
use Rattle.soqe_form.specs.Alike.{AlikeIn}
use Rattle.soqe_form.specs.Free.{free as free_in, free_pred as free_pred_in}
use Rattle.soqe_form.specs.Sorted.{sorted}
use Rattle.soqe_form.specs.Places.{count_blocks}
use Rattle.soqe_simp.specs.Weight.{weight as weight_of}
use Rattle.soqe_simp.specs.Normal.{is_simple}
use Rattle.soqe_simp.specs.Simplified.{simplified, simplify}

-- Where f is well sorted, g is, and has its truth in every world that fits. g has no free name that f lacks,
-- no more quantifiers of predicates, and weighs no more.
pub record Simplifies (f g : Form) : Type 0 where
  pub alike : (e : Sorting) → sorted e f ≡ true → AlikeIn e f g
  pub sorts : (e : Sorting) → sorted e f ≡ true → sorted e g ≡ true
  pub free : (n : ℕ) → free_in n g ≡ true → free_in n f ≡ true
  pub free_pred : (n : ℕ) → free_pred_in n g ≡ true → free_pred_in n f ≡ true
  pub count : count_blocks g ≤ count_blocks f
  pub weight : weight_of g ≤ weight_of f

-- the simple formula keeps what has to be kept
abbrev pub SimplifyKeeps : Type 0
SimplifyKeeps = (f : Form) → Simplifies f (simplify f)

-- no row applies anywhere in it
abbrev pub SimplifyIsSimple : Type 0
SimplifyIsSimple = (f : Form) → is_simple (simplify f) ≡ true

-- a simple formula stays as it is
abbrev pub SimpleStays : Type 0
SimpleStays = (f : Form) → is_simple f ≡ true → simplify f ≡ f

-- the bound in the definition does not matter: each one that is at least the formula's weight gives the same
abbrev pub BoundDoesNotMatter : Type 0
BoundDoesNotMatter = (k : ℕ) (f : Form) → weight_of f ≤ k → simplified k f ≡ simplify f
