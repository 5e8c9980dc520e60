-- The headline: what a run promises where its status is `Done`.
use Rattle.std.specs.Prelude.{ℕ, List, Option}
use Rattle.std.specs.Io.KnownBytes.{Appends, Consumes, IsAtEnd}
use Rattle.soqe_form.specs.declared.form.Form.{Form}
use Rattle.soqe_text.specs.Spelled.{Spells}
use Rattle.soqe_deriv.specs.declared.document.Document.{Document}
use Rattle.soqe_deriv.specs.Text.{document_text}
use Rattle.soqe_deriv.specs.Valid.{IsAccepted}
use Rattle.soqe_deriv.specs.Sound.{IsAnswerTo}

-- The source told a text, to its end. The text spells the problem of a document, and the sink took the text of this
-- document, whole and nothing else. The document is valid with a result, and the result answers the problem: it has no
-- quantified predicate, no bound predicate and no Skolem function, its free variables are declared, and it is true in
-- exactly the finite structures, and under exactly the assignments, in which the goal is.
pub record IsSolved (left_before left_after taken_before taken_after : Option (List ℕ)) : Type 0 where
  pub read : List ℕ
  pub told : Consumes left_before left_after read
  pub whole : IsAtEnd left_after
  pub document : Document
  pub result : Form
  pub spelled : Spells read document.problem
  pub written : Appends taken_before taken_after (document_text document)
  pub accepted : IsAccepted document result
  pub answers : IsAnswerTo document.problem result
