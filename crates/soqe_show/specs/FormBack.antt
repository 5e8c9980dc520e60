-- What is printed for a formula by itself is read back.
use Rattle.std.specs.Prelude.{◌≡◌, ◌<◌, ◌^◌, ℕ, Bool, true, ◌&&◌, nat_lt, List, length}
use Rattle.std.specs.List.{list_all}
use Rattle.soqe_name.specs.Names.{is_ordinary}
use Rattle.soqe_syntax.specs.declared.piece.Span.{Span}
use Rattle.soqe_syntax.specs.Grammar as syntax
use Rattle.soqe_syntax.specs.Grammar.{IsLevelled}
use Rattle.soqe_signature.specs.declared.kinds.NameKind.TheVariants as numbering
use Rattle.soqe_signature.specs.declared.skolems.SkolemSig.{SkolemSig}
use Rattle.soqe_term.specs.declared.term.Var.{Var}
use Rattle.soqe_signature.specs.Declarations.{Declaration, HasDistinctNames, count_of}
use Rattle.soqe_form.specs.declared.form.PVar.{PVar}
use Rattle.soqe_form.specs.declared.form.Form.{Form, True, False, Equal, Atom, Not', And', Or', Imp', Iff', All', Ex', All2', Ex2', end_of-Form as end, more_of-Form as one}
use Rattle.soqe_signature.specs.Scope.{sorting_for}
use Rattle.soqe_form.specs.Sorted.{sorted}
use Rattle.soqe_parse.specs.Formulas.{HasForm}
use Rattle.soqe_text.specs.declared.problem.Problem.TheVariants as problem
use Rattle.soqe_text.specs.Spelled.{Spells}
use Rattle.soqe_text.specs.SpelledForm.{SpellsForm}
use Rattle.soqe_show.specs.Dress.{dress, form_text}
use Rattle.soqe_show.specs.Placed.{texts, AreWords}

-- a sort is declared
abbrev pub is_declared : List Declaration → ℕ → Bool
is_declared ds s = nat_lt s (count_of numbering.Sort ds)

-- a number can be read, if it stands in a tagged name
abbrev pub is_small : ℕ → Bool
is_small n = nat_lt n (2 ^ 64)

-- each binder of a formula has a number that can be read, and sorts that are declared
abbrev pub has_known_binders : List Declaration → Form → Bool
has_known_binders ds True = true
has_known_binders ds False = true
has_known_binders ds (Equal s t) = true
has_known_binders ds (Atom p ts) = true
has_known_binders ds (Not' _ (one f end)) = has_known_binders ds f
has_known_binders ds (And' _ (one f end) _ (one g end)) = has_known_binders ds f && has_known_binders ds g
has_known_binders ds (Or' _ (one f end) _ (one g end)) = has_known_binders ds f && has_known_binders ds g
has_known_binders ds (Imp' _ (one f end) _ (one g end)) = has_known_binders ds f && has_known_binders ds g
has_known_binders ds (Iff' _ (one f end) _ (one g end)) = has_known_binders ds f && has_known_binders ds g
has_known_binders ds (All' x _ (one f end)) = is_small x.num && (is_declared ds x.sort && has_known_binders ds f)
has_known_binders ds (Ex' x _ (one f end)) = is_small x.num && (is_declared ds x.sort && has_known_binders ds f)
has_known_binders ds (All2' p _ (one f end)) = is_small p.num && (list_all (is_declared ds) p.args && has_known_binders ds f)
has_known_binders ds (Ex2' p _ (one f end)) = is_small p.num && (list_all (is_declared ds) p.args && has_known_binders ds f)

-- The declared names are distinct and ordinary, and the numbers of Skolem functions, free variables and free bound
-- predicates can be read.
pub record AreReadable (ds : List Declaration) (ks : List SkolemSig) (xs : List Var) (ps : List PVar) : Type 0 where
  pub distinct : HasDistinctNames ds
  pub ordinary : list_all (λ (d : Declaration). is_ordinary d.name) ds ≡ true
  pub skolems : list_all (λ (k : SkolemSig). is_small k.num) ks ≡ true
  pub free : list_all (λ (x : Var). is_small x.num) xs ≡ true
  pub preds : list_all (λ (p : PVar). is_small p.num) ps ≡ true

-- A formula is well sorted, and its binders are known.
pub record IsReadable (ds : List Declaration) (ks : List SkolemSig) (xs : List Var) (ps : List PVar) (f : Form) : Type 0 where
  pub names : AreReadable ds ks xs ps
  pub binders : has_known_binders ds f ≡ true
  pub well_sorted : sorted (sorting_for ds ks xs ps) f ≡ true

-- In the tree that is printed for a formula no operand is looser than its place.
abbrev pub FormPrintedIsLevelled : Type 0
FormPrintedIsLevelled = (ds : List Declaration) (f : Form) → IsLevelled (dress ds f)

-- Each name that is printed for a formula is a word, and each equation has its sign.
abbrev pub FormPrintedHasWords : Type 0
FormPrintedHasWords = (ds : List Declaration) (ks : List SkolemSig) (xs : List Var) (ps : List PVar) (f : Form) → IsReadable ds ks xs ps f → AreWords (dress ds f)

-- A text that has a shape whose names are those that are printed for a formula spells the formula.
abbrev pub FormSpellsBack : Type 0
FormSpellsBack = (ds : List Declaration) (ks : List SkolemSig) (xs : List Var) (ps : List PVar) (f : Form) (text : List ℕ) (places : syntax.Tree Span)
    → IsReadable ds ks xs ps f → HasForm text places → texts text places ≡ dress ds f → SpellsForm ds ks xs ps text f

-- The printed text of a formula spells the formula.
abbrev pub FormReadsBack : Type 0
FormReadsBack = (ds : List Declaration) (ks : List SkolemSig) (xs : List Var) (ps : List PVar) (f : Form) → IsReadable ds ks xs ps f → SpellsForm ds ks xs ps (form_text ds f) f

-- A text spells a formula, wherever the formula can be read.
abbrev pub SpellsWhereReadable : List ℕ → List Declaration → Form → Type 0
SpellsWhereReadable text ds f = (ks : List SkolemSig) (xs : List Var) (ps : List PVar) → IsReadable ds ks xs ps f → SpellsForm ds ks xs ps text f

-- The names can be read, the first sort, `obj`, is declared, and there are fewer than 2 ^ 64 declarations.
pub record AreUsual (ds : List Declaration) (ks : List SkolemSig) (xs : List Var) (ps : List PVar) : Type 0 where
  pub names : AreReadable ds ks xs ps
  pub obj : is_declared ds 0 ≡ true
  pub few : length ds < 2 ^ 64

-- A formula that some text spells can be read.
abbrev pub FormSpelledIsReadable : Type 0
FormSpelledIsReadable = (ds : List Declaration) (ks : List SkolemSig) (xs : List Var) (ps : List PVar) (bytes : List ℕ) (f : Form) → AreUsual ds ks xs ps
    → SpellsForm ds ks xs ps bytes f → IsReadable ds ks xs ps f

-- The printed text of a formula that some text spells spells the formula.
abbrev pub FormReadsBackWhereSome : Type 0
FormReadsBackWhereSome = (ds : List Declaration) (ks : List SkolemSig) (xs : List Var) (ps : List PVar) (bytes : List ℕ) (f : Form) → AreUsual ds ks xs ps
    → SpellsForm ds ks xs ps bytes f → SpellsForm ds ks xs ps (form_text ds f) f

-- Names are ordinary, `obj` is declared, and the binders of a formula are known.
pub record HasUsualNames (ds : List Declaration) (f : Form) : Type 0 where
  pub ordinary : list_all (λ (d : Declaration). is_ordinary d.name) ds ≡ true
  pub obj : is_declared ds 0 ≡ true
  pub binders : has_known_binders ds f ≡ true

-- So it is with a problem that some text spells.
abbrev pub ProblemIsUsual : Type 0
ProblemIsUsual = (bytes : List ℕ) (ds : List Declaration) (goal : Form) → length ds < 2 ^ 64 → Spells bytes (problem.Elim ds goal) → HasUsualNames ds goal
