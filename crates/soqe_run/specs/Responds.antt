-- What the engine answers to the bytes of a text.
use Rattle.std.specs.Prelude.{ℕ, List, ◌++◌, codes}
use Rattle.std.specs.Fmt.{decimal}
use Rattle.soqe_form.specs.declared.form.Form.{Form}
use Rattle.soqe_parse.specs.Faults.{IsFaultAt}
use Rattle.soqe_text.specs.Spelled.{Spells, HasNameFault, HasSortFault}
use Rattle.soqe_deriv.specs.declared.document.Document.{Document}
use Rattle.soqe_deriv.specs.declared.document.Stop.{Stop}
use Rattle.soqe_deriv.specs.declared.document.Stop.TheVariants as stop
use Rattle.soqe_deriv.specs.Text.{document_text}
use Rattle.soqe_deriv.specs.Valid.{IsAccepted, IsHalted}
use Rattle.soqe_deriv.specs.Sound.{IsAnswerTo}
use Rattle.soqe_flow.specs.declared.derivation.Wanted.{Wanted}
use Rattle.soqe_flow.specs.Ordered.{IsOrdered, Result, Stops}
use Rattle.soqe_run.specs.Reply.{IsFixed, line}
use Rattle.soqe_run.specs.declared.status.Status.{Status}
use Rattle.soqe_run.specs.declared.status.Status.TheVariants.{Done, Syntax, Names, Sorts, NotReached, Mixed}

-- the document is the one that is due for its problem by the method, it is valid, and its result answers the problem
pub record IsDerived (wanted : Wanted) (document : Document) (result : Form) : Type 0 where
  pub ordered : IsOrdered wanted document (Result result)
  pub accepted : IsAccepted document result
  pub answers : IsAnswerTo document.problem result

-- the document is the one that is due for its problem by the method, it is valid, and it ends with a stop
pub record IsRefused (wanted : Wanted) (document : Document) (stop : Stop) : Type 0 where
  pub ordered : IsOrdered wanted document (Stops stop)
  pub halted : IsHalted document

-- the status of each stop
abbrev pub status_of : Stop → Status
status_of (stop.Mixed i j) = Mixed
status_of (stop.NotReached n) = NotReached

-- what the engine answers to the bytes of a text
pub data Responds (wanted : Wanted) (bytes : List ℕ) (status : Status) (text : List ℕ) : Type 0 where
  syntax_fault : (at : ℕ) → IsFaultAt bytes at → IsFixed Syntax (line (codes "syntax at " ++ decimal at)) status text → Responds wanted bytes status text
  names_fault : (at : ℕ) → HasNameFault bytes at → IsFixed Names (line (codes "names at " ++ decimal at)) status text → Responds wanted bytes status text
  sorts_fault : (at : ℕ) → HasSortFault bytes at → IsFixed Sorts (line (codes "sorts at " ++ decimal at)) status text → Responds wanted bytes status text
  done : (document : Document) (result : Form) → Spells bytes document.problem → IsDerived wanted document result
      → IsFixed Done (document_text document) status text → Responds wanted bytes status text
  stopped : (document : Document) (stop : Stop) → Spells bytes document.problem → IsRefused wanted document stop
      → IsFixed (status_of stop) (document_text document) status text → Responds wanted bytes status text
