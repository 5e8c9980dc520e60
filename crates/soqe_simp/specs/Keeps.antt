-- What holds of a formula f and a lighter formula g that takes its place.
use Rattle.std.specs.Prelude.{ℕ, ◌≡◌, ◌<◌, ◌≤◌, true, Option, Some}
use Rattle.soqe_term.specs.World.{World}
use Rattle.soqe_term.specs.Sorting.{Sorting}
use Rattle.soqe_form.specs.declared.form.Form.{Form}
use Rattle.soqe_form.specs.Alike.{AlikeIn}
use Rattle.soqe_form.specs.Truth.{truth as truth_of}
use Rattle.soqe_form.specs.Free.{free as free_in, free_pred as free_pred_in}
use Rattle.soqe_form.specs.Sorted.{sorted}
use Rattle.soqe_form.specs.Places.{count_blocks}
use Rattle.soqe_simp.specs.declared.rewriting.Rewritten.{Rewritten}
use Rattle.soqe_simp.specs.Step.{step}
use Rattle.soqe_simp.specs.Weight.{weight as weight_of}

-- g is well sorted where f is, has no free name that f lacks and no more quantifiers of predicates, and weighs less
pub record Shrinks (f g : Form) : Type 0 where
  pub sorts : (e : Sorting) → sorted e f ≡ true → sorted e g ≡ true
  pub free : (n : ℕ) → free_in n g ≡ true → free_in n f ≡ true
  pub free_pred : (n : ℕ) → free_pred_in n g ≡ true → free_pred_in n f ≡ true
  pub count : count_blocks g ≤ count_blocks f
  pub weight : weight_of g < weight_of f

-- they have one truth in every world, too
pub record Keeps (f g : Form) : Type 0 where
  pub truth : (w : World) → truth_of w f ≡ truth_of w g
  pub shrinks : Shrinks f g

-- they have one truth in every world that fits what is known of the names, where f is well sorted by it
pub record KeepsIn (f g : Form) : Type 0 where
  pub alike : (e : Sorting) → sorted e f ≡ true → AlikeIn e f g
  pub shrinks : Shrinks f g

-- what a row gives keeps the truth of the formula in every world
abbrev pub RowKeeps : (Form → Option Form) → Type 0
RowKeeps row = (f g : Form) → row f ≡ Some g → Keeps f g

-- the same in the worlds that fit
abbrev pub RowKeepsIn : (Form → Option Form) → Type 0
RowKeepsIn row = (f g : Form) → row f ≡ Some g → KeepsIn f g

-- and so does a step
abbrev pub StepKeeps : Type 0
StepKeeps = (f : Form) (r : Rewritten) → step f ≡ Some r → KeepsIn f r.form
