-- Laws of substitution and of renaming: what is true of the result, and that a predicate that is not free doesn't matter.
use Rattle.std.specs.Prelude.{ℕ, ◌≡◌, ◌≤◌, Bool, true, false, List}
use Rattle.soqe_term.specs.World.{World, with_bound}
use Rattle.soqe_number.specs.Updates.{changed}
use Rattle.soqe_term.specs.Sorting.{Sorting}
use Rattle.soqe_term.specs.declared.bindings.Bound.{Bound}
use Rattle.soqe_term.specs.Bindings.{with_binding, over_binding, HasOwnSorts, AreSorted}
use Rattle.soqe_form.specs.declared.form.Pred.{Pred}
use Rattle.soqe_form.specs.declared.form.PVar.{PVar}
use Rattle.soqe_form.specs.declared.form.Form.{Form}
use Rattle.soqe_form.specs.FreePreds.{has_free, with_pred, over_pred}
use Rattle.soqe_form.specs.Mentions.{depth}
use Rattle.soqe_subst.specs.Substitution.{sub}
use Rattle.soqe_subst.specs.PredRenaming.{renamed_pred, renumbered}
use Rattle.soqe_form.specs.MentionsPreds.{mentions_pred}
use Rattle.soqe_form.specs.Sorted.{sorted}
use Rattle.soqe_form.specs.Truth.{truth}

-- the truth after a substitution is the truth where each variable has the value of its term
abbrev pub SubHasTruth : Type 0
SubHasTruth = (k : ℕ) (w : World) (s : List Bound) (f : Form) → depth f ≤ k → truth w (sub k s f) ≡ truth (with_binding w s) f

-- the result of a substitution is well sorted wherever the terms are, each of its variable's sort, and the formula is where
-- the variables are known
abbrev pub SubIsSorted : Type 0
SubIsSorted = (k : ℕ) (e : Sorting) (s : List Bound) (f : Form) → depth f ≤ k → HasOwnSorts s → AreSorted e s → sorted (over_binding e s) f ≡ true → sorted e (sub k s f) ≡ true

-- the table of a predicate that is not free doesn't matter
abbrev pub UnusedTable : Type 0
UnusedTable = (w : World) (q : Pred) (t : List ℕ → Bool) (f : Form) → has_free q f ≡ false → truth (with_pred w q t) f ≡ truth w f

-- nor do its sorts
abbrev pub UnusedSorts : Type 0
UnusedSorts = (e : Sorting) (q : Pred) (sorts : List ℕ) (f : Form) → has_free q f ≡ false → sorted (over_pred e q sorts) f ≡ sorted e f

-- a formula in which m was renamed to n has the truth of the formula with the table of n for m
abbrev pub RenamedHasTruth : Type 0
RenamedHasTruth = (w : World) (m n : ℕ) (f : Form) → mentions_pred n f ≡ false → truth w (renamed_pred m n f) ≡ truth (with_bound w m (w.bound n)) f

-- it is well sorted where the formula is with the sorts of n for m
abbrev pub RenamedIsSorted : Type 0
RenamedIsSorted = (e : Sorting) (m n : ℕ) (f : Form) → mentions_pred n f ≡ false → sorted e (renamed_pred m n f) ≡ sorted (record e { bound = changed e.bound m (e.bound n) }) f

-- a quantifier of a predicate under another number has the same truth
abbrev pub RenumberedHasTruth : (PVar → Form → Form) → Type 0
RenumberedHasTruth quantifier = (w : World) (p : PVar) (n : ℕ) (f : Form) → mentions_pred n f ≡ false → truth w (quantifier (renumbered p n) (renamed_pred p.num n f)) ≡ truth w (quantifier p f)

-- and is as well sorted
abbrev pub RenumberedIsSorted : (PVar → Form → Form) → Type 0
RenumberedIsSorted quantifier = (e : Sorting) (p : PVar) (n : ℕ) (f : Form) → mentions_pred n f ≡ false → sorted e (quantifier (renumbered p n) (renamed_pred p.num n f)) ≡ sorted e (quantifier p f)
