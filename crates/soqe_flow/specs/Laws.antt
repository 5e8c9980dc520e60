-- Laws of derivations.
use Rattle.soqe_form.specs.declared.form.Form.{Form}
use Rattle.soqe_deriv.specs.declared.document.Document.{Document}
use Rattle.soqe_text.specs.Sorted.{IsSorted}
use Rattle.soqe_deriv.specs.Valid.{IsAccepted, IsHalted}
use Rattle.soqe_deriv.specs.Sound.{IsAnswerTo}
use Rattle.soqe_deriv.specs.declared.document.Stop.{Stop}
use Rattle.soqe_flow.specs.declared.derivation.Wanted.{Wanted}
use Rattle.soqe_flow.specs.Ordered.{Ending, Result, Stops, Follows, IsOrdered}
use Rattle.soqe_deriv.specs.declared.document.Line.{Line}
use Rattle.std.specs.Prelude.{◌≡◌, ℕ, List}

-- the document of a well-sorted problem that ends with a result is valid
abbrev pub DoneIsValid : Type 0
DoneIsValid = (w : Wanted) (d : Document) (f : Form) → IsSorted d.problem → IsOrdered w d (Result f) → IsAccepted d f

-- the document of a well-sorted problem that ends with a stop is valid
abbrev pub StopIsValid : Type 0
StopIsValid = (w : Wanted) (d : Document) (s : Stop) → IsSorted d.problem → IsOrdered w d (Stops s) → IsHalted d

-- the result of a well-sorted problem's document answers the problem
abbrev pub DoneIsSound : Type 0
DoneIsSound = (w : Wanted) (d : Document) (f : Form) → IsSorted d.problem → IsOrdered w d (Result f) → IsAnswerTo d.problem f

-- a method has one derivation from a formula
abbrev pub OneDerivation : Type 0
OneDerivation = (keep : List ℕ) (w : Wanted) (f : Form) (ls ms : List Line) (e g : Ending) → Follows keep w f ls e → Follows keep w f ms g → (ls ≡ ms) × (e ≡ g)
