-- The formula that a text spells by itself, where a problem was read, and the places where a text that has a formula's shape
-- is refused.
use Rattle.std.specs.Prelude.{◌≡◌, ◌⊎◌, ℕ, List, ◌∷◌, map, Option, Some, None, true}
use Rattle.std.specs.Option.{option_or}
use Rattle.soqe_syntax.specs.declared.piece.Span.{Span}
use Rattle.soqe_syntax.specs.Grammar as syntax
use Rattle.soqe_syntax.specs.Pieces.{text_at}
use Rattle.soqe_signature.specs.declared.skolems.SkolemSig.{SkolemSig}
use Rattle.soqe_term.specs.declared.term.Var.{Var}
use Rattle.soqe_signature.specs.Declarations.{Declaration, Found}
use Rattle.soqe_form.specs.declared.form.PVar.{PVar}
use Rattle.soqe_form.specs.declared.form.Form.{Form}
use Rattle.soqe_signature.specs.Scope.{sorting_for}
use Rattle.soqe_form.specs.Sorted.{sorted}
use Rattle.soqe_parse.specs.Formulas.{HasForm, IsFormFaultAt}
use Rattle.soqe_text.specs.declared.entering.Place.{Place}
use Rattle.soqe_text.specs.declared.entering.Place.TheVariants as place
use Rattle.soqe_text.specs.Meanings.{found_in, form_names}
use Rattle.soqe_text.specs.Naming.{unknown_in_by, unknown_of_by, unknown_sort_by, variable_place, predicate_place}
use Rattle.soqe_text.specs.Uses.{wrong_by}
use Rattle.soqe_text.specs.Numbering.{numbered_by}

-- the first refused name of a binder and its body: its own name, where it stands for nothing that is bound
abbrev pub refused_binder : Place → ℕ → (ℕ → Option ℕ) → Option ℕ
refused_binder place.New at behind = Some at
refused_binder (place.Old n) at behind = behind n
refused_binder place.Taken at behind = Some at

-- The first refused name of a formula by itself. No name joins those that the look-up knows.
abbrev pub refused : List ℕ → (List ℕ → Option Found) → List ℕ → List ℕ → syntax.Tree Span → Option ℕ
refused bytes look vs ps (syntax.Constant b) = None
refused bytes look vs ps (syntax.Atom t) = unknown_in_by bytes look vs ps t
refused bytes look vs ps (syntax.Equation b at l r) = option_or (unknown_in_by bytes look vs ps l) (unknown_in_by bytes look vs ps r)
refused bytes look vs ps (syntax.Not a) = refused bytes look vs ps a
refused bytes look vs ps (syntax.Bind q x s a) =
    refused_binder (variable_place (look (text_at bytes x))) x.start
    (λ n. option_or (unknown_sort_by bytes look vs ps s) (refused bytes look (n ∷ vs) ps a))
refused bytes look vs ps (syntax.Bind2 q p ss a) =
    refused_binder (predicate_place (look (text_at bytes p))) p.start
    (λ n. option_or (unknown_of_by bytes look vs ps ss) (refused bytes look vs (n ∷ ps) a))
refused bytes look vs ps (syntax.Binary op l r) = option_or (refused bytes look vs ps l) (refused bytes look vs ps r)
refused bytes look vs ps (syntax.Paren a) = refused bytes look vs ps a

-- The tables by which a formula by itself is read: the declarations and names of a problem, Skolem functions, and the free
-- variables and free bound predicates.
pub record Tables : Type 0 where
  pub declared : List Declaration
  pub skolems : List SkolemSig
  pub free : List Var
  pub preds : List PVar

-- the first refused name, by the tables
abbrev pub refused_form : List ℕ → Tables → syntax.Tree Span → Option ℕ
refused_form bytes t = refused bytes (found_in t.declared t.skolems) (map (λ (x : Var). x.num) t.free) (map (λ (p : PVar). p.num) t.preds)

-- the first wrong use, by the tables
abbrev pub wrong_form : List ℕ → Tables → syntax.Tree Span → Option ℕ
wrong_form bytes t = wrong_by bytes (form_names t.declared t.skolems) t.free t.preds

-- the formula of a tree, by the tables
abbrev pub numbered_form : List ℕ → Tables → syntax.Tree Span → Form
numbered_form bytes t = numbered_by bytes (form_names t.declared t.skolems) t.free

-- A text has a formula's shape whose names are all known.
pub record IsFormNamed (t : Tables) (bytes : List ℕ) (tree : syntax.Tree Span) : Type 0 where
  pub shape : HasForm bytes tree
  pub named : refused_form bytes t tree ≡ None

-- A text spells a formula by itself: its names are known and used rightly, and the formula is its shape with their numbers.
pub record SpellsFormBy (t : Tables) (bytes : List ℕ) (form : Form) : Type 0 where
  pub tree : syntax.Tree Span
  pub well_named : IsFormNamed t bytes tree
  pub well_sorted : wrong_form bytes t tree ≡ None
  pub numbered : form ≡ numbered_form bytes t tree

-- The first refused name of a text that has a formula's shape begins here.
pub record HasFormNameFault (t : Tables) (bytes : List ℕ) (at : ℕ) : Type 0 where
  pub tree : syntax.Tree Span
  pub shape : HasForm bytes tree
  pub refused : refused_form bytes t tree ≡ Some at

-- All names of a formula's text are known, and the first one that is used wrongly, or the first sign between two sorts,
-- begins here.
pub record HasFormSortFault (t : Tables) (bytes : List ℕ) (at : ℕ) : Type 0 where
  pub tree : syntax.Tree Span
  pub well_named : IsFormNamed t bytes tree
  pub refused : wrong_form bytes t tree ≡ Some at

-- the tables of a signature, Skolem functions and free names
abbrev pub tables : List Declaration → List SkolemSig → List Var → List PVar → Tables
tables ds ks xs ps = record { declared = ds; skolems = ks; free = xs; preds = ps }

-- A text spells a formula, by the declarations and names of a problem, Skolem functions, free variables and free bound
-- predicates.
abbrev pub SpellsForm : List Declaration → List SkolemSig → List Var → List PVar → List ℕ → Form → Type 0
SpellsForm ds ks xs ps = SpellsFormBy (tables ds ks xs ps)

-- A formula that a text spells by itself is well sorted.
abbrev pub SpelledFormIsSorted : Type 0
SpelledFormIsSorted = (ds : List Declaration) (ks : List SkolemSig) (xs : List Var) (ps : List PVar) (bytes : List ℕ) (f : Form)
    → SpellsForm ds ks xs ps bytes f → sorted (sorting_for ds ks xs ps) f ≡ true

-- A text spells at most one formula by itself.
abbrev pub OneFormSpelled : Type 0
OneFormSpelled = (t : Tables) (bytes : List ℕ) (f g : Form) → SpellsFormBy t bytes f → SpellsFormBy t bytes g → f ≡ g

-- A text that spells a formula has no syntax fault, no refused name and no wrong use.
abbrev pub FormSpelledAlone : Type 0
FormSpelledAlone = (t : Tables) (bytes : List ℕ) (f : Form) (at : ℕ) → SpellsFormBy t bytes f
    → (IsFormFaultAt bytes at ⊎ (HasFormNameFault t bytes at ⊎ HasFormSortFault t bytes at)) → ⊥

-- A formula's text is not refused for two reasons.
abbrev pub OneFormReason : Type 0
OneFormReason = (t : Tables) (bytes : List ℕ) (at other : ℕ)
    → (IsFormFaultAt bytes at → (HasFormNameFault t bytes other ⊎ HasFormSortFault t bytes other) → ⊥) × (HasFormNameFault t bytes at → HasFormSortFault t bytes other → ⊥)

-- A text with a formula's shape spells a formula, or a name of it is refused, or used wrongly.
abbrev pub FormShapeReads : Type 0
FormShapeReads = (t : Tables) (bytes : List ℕ) (tree : syntax.Tree Span) → HasForm bytes tree
    → ((f : Form) × SpellsFormBy t bytes f) ⊎ (((at : ℕ) × HasFormNameFault t bytes at) ⊎ ((at : ℕ) × HasFormSortFault t bytes at))
