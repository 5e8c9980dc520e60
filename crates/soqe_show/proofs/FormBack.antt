-- What is printed for a formula by itself is read back. The printed tree is read as the formula (BackForms); so a tree over
-- places with these texts is named and used rightly, and has that formula (BackRefused, BackUses, BackNumbers).
use Rattle.std.proofs.Common.{◌≡◌, ℕ, List, ◌∙◌, sym, subst}
use Rattle.soqe_syntax.specs.declared.piece.Span.{Span}
use Rattle.soqe_syntax.specs.Grammar as syntax
use Rattle.soqe_signature.specs.declared.skolems.SkolemSig.{SkolemSig}
use Rattle.soqe_term.specs.declared.term.Var.{Var}
use Rattle.soqe_signature.specs.Declarations.{Declaration}
use Rattle.soqe_form.specs.declared.form.PVar.{PVar}
use Rattle.soqe_form.specs.declared.form.Form.{Form}
use Rattle.soqe_parse.specs.Formulas.{HasForm}
use Rattle.soqe_text.specs.Meanings.{found_in, form_names}
use Rattle.soqe_text.specs.SpelledForm.{SpellsForm}
use Rattle.soqe_show.specs.Dress.{dress, form_text}
use Rattle.soqe_show.specs.Placed.{texts, placed, AreWords}
use Rattle.soqe_show.specs.FormBack.{IsReadable, SpellsWhereReadable}
use Rattle.soqe_show.proofs.PlacedShapes.{formula_has_shape}
use Rattle.soqe_show.proofs.PlacedTexts.{formula_has_texts}
use Rattle.soqe_show.proofs.BackAmong.{numbers, pred_numbers}
use Rattle.soqe_show.proofs.BackRefused.{texts_known}
use Rattle.soqe_show.proofs.BackUses.{texts_right}
use Rattle.soqe_show.proofs.BackNumbers.{form_is}
use Rattle.soqe_show.proofs.BackLevels.{levelled}
use Rattle.soqe_show.proofs.BackForms.{ReadsTree, form_reads}

module _ (ds : List Declaration) (ks : List SkolemSig) (xs : List Var) (ps : List PVar) (f : Form) where
  read_printed : IsReadable ds ks xs ps f → ReadsTree ds ks xs ps (dress ds f) f
  read_printed h = form_reads ds ks xs ps h.names f h.binders h.well_sorted

  pub form_words : IsReadable ds ks xs ps f → AreWords (dress ds f)
  form_words h = (read_printed h).words

  pub form_spells_back : (text : List ℕ) (places : syntax.Tree Span) → IsReadable ds ks xs ps f → HasForm text places → texts text places ≡ dress ds f → SpellsForm ds ks xs ps text f
  form_spells_back text places h shape same =
      let read = subst (λ t. ReadsTree ds ks xs ps t f) (sym same) (read_printed h) in
      record {
        tree = places;
        well_named = record { shape = shape; named = texts_known text (found_in ds ks) (numbers xs) (pred_numbers ps) places read.known };
        well_sorted = texts_right text (form_names ds ks) xs ps places read.right;
        numbered = sym (form_is text (form_names ds ks) xs places ∙ read.is);
      }

  -- the printed text is that of words in their places
  pub form_reads_back : IsReadable ds ks xs ps f → SpellsForm ds ks xs ps (form_text ds f) f
  form_reads_back h =
      let tree = dress ds f in
      form_spells_back (form_text ds f) (placed 0 tree) h (formula_has_shape tree (form_words h) (levelled ds f)) (formula_has_texts tree)

-- so is each text that is the printed one
pub printed_form_spells : (text : List ℕ) (ds : List Declaration) (f : Form) → text ≡ form_text ds f → SpellsWhereReadable text ds f
printed_form_spells text ds f is ks xs ps h = subst (λ text. SpellsForm ds ks xs ps text f) (sym is) (form_reads_back ds ks xs ps f h)
