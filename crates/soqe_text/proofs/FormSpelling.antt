-- That a formula's text is exactly one of: a formula's, refused for a name, refused for a use, without a shape.
use Rattle.std.specs.Prelude.{ℕ, ◌≡◌, ◌⊎◌, List, Option, Some, None, refl}
use Rattle.std.proofs.Common.{sym, ◌∙◌, ap, inl, inr}
use Rattle.std.proofs.lemmas.Option.{none-some}
use Rattle.soqe_syntax.specs.declared.piece.Span.{Span}
use Rattle.soqe_syntax.specs.Grammar as syntax
use Rattle.soqe_form.specs.declared.form.Form.{Form}
use Rattle.soqe_parse.specs.Formulas.{HasForm}
use Rattle.soqe_parse.proofs.FormPlaces.{one_form, fault_or_form}
use Rattle.soqe_text.specs.SpelledForm.{Tables, refused_form, wrong_form, numbered_form, IsFormNamed, SpellsFormBy, HasFormNameFault, HasFormSortFault, OneFormSpelled, FormSpelledAlone, OneFormReason, FormShapeReads}

module _ (t : Tables) (bytes : List ℕ) where
  same_tree : (s r : syntax.Tree Span) → IsFormNamed t bytes s → IsFormNamed t bytes r → s ≡ r
  same_tree s r h k = one_form bytes s r h.shape k.shape

  spelled_or_names : (f : Form) (at : ℕ) → SpellsFormBy t bytes f → HasFormNameFault t bytes at → ⊥
  spelled_or_names f at h k =
      none-some at (sym h.well_named.named ∙ ap (refused_form bytes t) (one_form bytes h.tree k.tree h.well_named.shape k.shape) ∙ k.refused)

  spelled_or_sorts : (f : Form) (at : ℕ) → SpellsFormBy t bytes f → HasFormSortFault t bytes at → ⊥
  spelled_or_sorts f at h k = none-some at (sym h.well_sorted ∙ ap (wrong_form bytes t) (same_tree h.tree k.tree h.well_named k.well_named) ∙ k.refused)

  names_or_sorts : (at other : ℕ) → HasFormNameFault t bytes at → HasFormSortFault t bytes other → ⊥
  names_or_sorts at other h k =
      none-some at (sym k.well_named.named ∙ ap (refused_form bytes t) (one_form bytes k.tree h.tree k.well_named.shape h.shape) ∙ h.refused)

  abbrev Outcome : Type 0
  Outcome = ((f : Form) × SpellsFormBy t bytes f) ⊎ (((at : ℕ) × HasFormNameFault t bytes at) ⊎ ((at : ℕ) × HasFormSortFault t bytes at))

  uses : (tree : syntax.Tree Span) → IsFormNamed t bytes tree → (r : Option ℕ) → wrong_form bytes t tree ≡ r → Outcome
  uses tree named None e = inl (numbered_form bytes t tree, record { tree = tree; well_named = named; well_sorted = e; numbered = refl })
  uses tree named (Some at) e = inr (inr (at, record { tree = tree; well_named = named; refused = e }))

  reads : (tree : syntax.Tree Span) → HasForm bytes tree → (r : Option ℕ) → refused_form bytes t tree ≡ r → Outcome
  reads tree shape None e = uses tree (record { shape = shape; named = e }) (wrong_form bytes t tree) refl
  reads tree shape (Some at) e = inr (inl (at, record { tree = tree; shape = shape; refused = e }))

-- a text spells one formula by itself
pub one_form_spelled : OneFormSpelled
one_form_spelled t bytes f g h k = h.numbered ∙ ap (numbered_form bytes t) (same_tree t bytes h.tree k.tree h.well_named k.well_named) ∙ sym k.numbered

-- a text with a formula's shape spells a formula, or has a refused name, or a wrong use
pub form_shape_reads : FormShapeReads
form_shape_reads t bytes tree shape = reads t bytes tree shape (refused_form bytes t tree) refl

pub form_spelled_alone : FormSpelledAlone
form_spelled_alone t bytes f at h refused = elim refused [
  | inl fault ↦ fault_or_form bytes at h.tree fault h.well_named.shape
  | inr rest ↦ elim rest [ inl names ↦ spelled_or_names t bytes f at h names | inr sorts ↦ spelled_or_sorts t bytes f at h sorts ]
]

pub one_form_reason : OneFormReason
one_form_reason t bytes at other = (
  (λ fault refused. elim refused [
    | inl names ↦ fault_or_form bytes at names.tree fault names.shape
    | inr sorts ↦ fault_or_form bytes at sorts.tree fault sorts.well_named.shape
  ]),
  names_or_sorts t bytes at other,
)
