-- What is printed for a term is read back where a term stands: as a side of an equation.
use Rattle.std.specs.Prelude.{ℕ, List, ◌++◌, codes}
use Rattle.soqe_signature.specs.declared.skolems.SkolemSig.{SkolemSig}
use Rattle.soqe_term.specs.declared.term.Var.{Var}
use Rattle.soqe_term.specs.declared.term.Term.{Term}
use Rattle.soqe_signature.specs.Declarations.{Declaration}
use Rattle.soqe_form.specs.declared.form.PVar.{PVar}
use Rattle.soqe_form.specs.declared.form.Form.{Equal}
use Rattle.soqe_text.specs.SpelledForm.{SpellsForm}
use Rattle.soqe_show.specs.Dress.{dress_term}
use Rattle.soqe_show.specs.FormBack.{IsReadable}
use Rattle.soqe_show.specs.Printed.{term_text}

-- A text stands for a term: as the left or the right side of an equation with any other term, it spells that equation, wherever
-- the equation can be read.
pub record StandsFor (text : List ℕ) (ds : List Declaration) (t : Term) : Type 0 where
  pub left : (ks : List SkolemSig) (xs : List Var) (ps : List PVar) (s : Term) → IsReadable ds ks xs ps (Equal t s)
      → SpellsForm ds ks xs ps (text ++ codes " " ++ codes "=" ++ codes " " ++ term_text (dress_term ds s)) (Equal t s)
  pub right : (ks : List SkolemSig) (xs : List Var) (ps : List PVar) (s : Term) → IsReadable ds ks xs ps (Equal s t)
      → SpellsForm ds ks xs ps (term_text (dress_term ds s) ++ codes " " ++ codes "=" ++ codes " " ++ text) (Equal s t)
