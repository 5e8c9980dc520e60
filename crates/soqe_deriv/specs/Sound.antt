-- What an accepted document promises.
use Rattle.std.specs.Prelude.{◌≡◌, is_some}
use Rattle.soqe_signature.specs.Declarations.{free_sort_of}
use Rattle.soqe_signature.specs.Structures.{Structure, Setting, IsStructureFor, IsSettingFor, world_of}
use Rattle.soqe_form.specs.declared.form.Form.{Form}
use Rattle.soqe_form.specs.Truth.{truth}
use Rattle.soqe_form.specs.Pure.{IsPure}
use Rattle.soqe_text.specs.declared.problem.Problem.{Problem}
use Rattle.soqe_deriv.specs.declared.document.Document.{Document}
use Rattle.soqe_deriv.specs.Text.{declared_of}
use Rattle.soqe_deriv.specs.Valid.{goal_of, IsAccepted}

-- The formula contains no quantified predicate, no bound predicate and no Skolem function, its free variables are declared,
-- and it is true in exactly the finite structures, and under exactly the assignments, in which the problem's goal is.
pub record IsAnswerTo (p : Problem) (f : Form) : Type 0 where
  pub pure : IsPure (λ n. is_some (free_sort_of (declared_of p) n)) f
  pub same : (m : Structure) (s : Setting) → IsStructureFor (declared_of p) m → IsSettingFor (declared_of p) m s
      → truth (world_of (declared_of p) m s) f ≡ truth (world_of (declared_of p) m s) (goal_of p)

-- the result of an accepted document answers its problem
abbrev pub IsSound : Document → Type 0
IsSound d = (f : Form) → IsAccepted d f → IsAnswerTo d.problem f
