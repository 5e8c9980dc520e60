-- A formula with distinct bound variables.
-- The binders of variables are counted from left to right, an outer one before the inner ones, from 0. Each keeps its
-- number or gets a new one; then the formula is written again with these numbers.
use Rattle.std.specs.Prelude.{◌≡◌, ℕ, suc, ◌+◌, ◌<◌, Bool, true, false, eqb, not, ◌||◌, List, [], ◌∷◌, ◌++◌, length, slice_index}
use Rattle.std.specs.Bool.{MatchBool}
use Rattle.soqe_number.specs.Updates.{changed}
use Rattle.soqe_number.specs.Unused.{member}
use Rattle.soqe_term.specs.Renumber.{numbered, renumbered as renumbered_term, all_renumbered}
use Rattle.soqe_form.specs.declared.form.Form.{Form, True, False, Equal, Atom, Not, Not', And, And', Or, Or', Imp, Imp', Iff, Iff', All, All', Ex, Ex', All2, All2', Ex2, Ex2', end_of-Form as end, more_of-Form as one}
use Rattle.soqe_form.specs.Free.{free}

-- the numbers of the binders of variables
abbrev pub binders : Form → List ℕ
binders True = []
binders False = []
binders (Equal s t) = []
binders (Atom p ts) = []
binders (Not' _ (one f end)) = binders f
binders (And' _ (one f end) _ (one g end)) = binders f ++ binders g
binders (Or' _ (one f end) _ (one g end)) = binders f ++ binders g
binders (Imp' _ (one f end) _ (one g end)) = binders f ++ binders g
binders (Iff' _ (one f end) _ (one g end)) = binders f ++ binders g
binders (All' x _ (one f end)) = x.num ∷ binders f
binders (Ex' x _ (one f end)) = x.num ∷ binders f
binders (All2' p _ (one f end)) = binders f
binders (Ex2' p _ (one f end)) = binders f

-- the formula with other numbers for its free variables, by r, and for its binders: by the list, from its entry `at` on
abbrev pub renumbered : List ℕ → (ℕ → ℕ) → ℕ → Form → Form
renumbered ns r at True = True
renumbered ns r at False = False
renumbered ns r at (Equal s t) = Equal (renumbered_term r s) (renumbered_term r t)
renumbered ns r at (Atom p ts) = Atom p (all_renumbered r ts)
renumbered ns r at (Not' _ (one f end)) = Not (renumbered ns r at f)
renumbered ns r at (And' _ (one f end) _ (one g end)) = And (renumbered ns r at f) (renumbered ns r (at + length (binders f)) g)
renumbered ns r at (Or' _ (one f end) _ (one g end)) = Or (renumbered ns r at f) (renumbered ns r (at + length (binders f)) g)
renumbered ns r at (Imp' _ (one f end) _ (one g end)) = Imp (renumbered ns r at f) (renumbered ns r (at + length (binders f)) g)
renumbered ns r at (Iff' _ (one f end) _ (one g end)) = Iff (renumbered ns r at f) (renumbered ns r (at + length (binders f)) g)
renumbered ns r at (All' x _ (one f end)) = All (numbered x (slice_index ns at)) (renumbered ns (changed r x.num (slice_index ns at)) (suc at) f)
renumbered ns r at (Ex' x _ (one f end)) = Ex (numbered x (slice_index ns at)) (renumbered ns (changed r x.num (slice_index ns at)) (suc at) f)
renumbered ns r at (All2' p _ (one f end)) = All2 p (renumbered ns r at f)
renumbered ns r at (Ex2' p _ (one f end)) = Ex2 p (renumbered ns r at f)

-- the least number that passes a test
pub record IsLeast (p : ℕ → Bool) (n : ℕ) : Type 0 where
  pub passes : p n ≡ true
  pub least : (m : ℕ) → m < n → p m ≡ false

-- A binder keeps its number where it isn't taken. Else it gets the least number that neither is taken nor stands in the
-- formula. The numbers of free variables are taken, so the others that stand there are those of binders.
abbrev pub IsChoice : (ℕ → Bool) → (ℕ → Bool) → ℕ → ℕ → Type 0
IsChoice taken standing old new = MatchBool (taken old) (IsLeast (λ n. not (taken n || standing n)) new) (new ≡ old)

-- each number is chosen for its binder, and is then taken for those behind
abbrev pub AreChoices : (ℕ → Bool) → (ℕ → Bool) → List ℕ → List ℕ → Type 0
AreChoices taken standing [] [] = Unit {0}
AreChoices taken standing [] (n ∷ ns) = ⊥
AreChoices taken standing (b ∷ bs) [] = ⊥
AreChoices taken standing (b ∷ bs) (n ∷ ns) = IsChoice taken standing b n × AreChoices (λ m. eqb m n || taken m) standing bs ns

-- taken from the start are the numbers to keep out and those of the free variables
abbrev pub taken_first : List ℕ → Form → ℕ → Bool
taken_first keep f n = member n keep || free n f

-- the formula with the chosen numbers for its binders
pub record IsApart (keep : List ℕ) (f made : Form) : Type 0 where
  pub numbers : List ℕ
  pub chosen : AreChoices (taken_first keep f) (λ n. member n (binders f)) (binders f) numbers
  pub is : made ≡ renumbered numbers (λ n. n) 0 f
