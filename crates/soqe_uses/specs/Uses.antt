-- How often the variable of each binder stands free in the binder's body. These numbers lie one on another, and the topmost is
-- written first: an outer binder's lies above those in its body, and a second child's lie above those of the first.
use Rattle.std.specs.Prelude.{ℕ, ◌≡◌, List, [], ◌∷◌}
use Rattle.soqe_form.specs.declared.form.Form.{Form, True, False, Equal, Atom, Not', And', Or', Imp', Iff', All', Ex', All2', Ex2', end_of-Form as end, more_of-Form as one}
use Rattle.soqe_form.specs.FreeVars.{free_occurrences}
use Rattle.soqe_uses.specs.Numbers.{numbers}
use Rattle.soqe_number.specs.Counts.{times, Counts}

-- how often the variable is free in f
abbrev pub uses : ℕ → Form → ℕ
uses x f = times x (numbers (free_occurrences f))

-- the topmost item, or the given one where there is none
abbrev pub top : {A : Type 0} → A → List A → A
top d [] = d
top d (n ∷ ns) = n

-- the items below it
abbrev pub under : {A : Type 0} → List A → List A
under [] = []
under (n ∷ ns) = ns

-- the items below those of the binders of f
abbrev pub below : {A : Type 0} → Form → List A → List A
below True ns = ns
below False ns = ns
below (Equal s t) ns = ns
below (Atom p ts) ns = ns
below (Not' _ (one f end)) ns = below f ns
below (And' _ (one f end) _ (one g end)) ns = below f (below g ns)
below (Or' _ (one f end) _ (one g end)) ns = below f (below g ns)
below (Imp' _ (one f end) _ (one g end)) ns = below f (below g ns)
below (Iff' _ (one f end) _ (one g end)) ns = below f (below g ns)
below (All' x _ (one f end)) ns = below f (under ns)
below (Ex' x _ (one f end)) ns = below f (under ns)
below (All2' p _ (one f end)) ns = below f ns
below (Ex2' p _ (one f end)) ns = below f ns

-- the numbers of the binders of f are on top
abbrev pub AreOnTop : Form → List ℕ → Type 0
AreOnTop True ns = Unit {0}
AreOnTop False ns = Unit {0}
AreOnTop (Equal s t) ns = Unit {0}
AreOnTop (Atom p ts) ns = Unit {0}
AreOnTop (Not' _ (one f end)) ns = AreOnTop f ns
AreOnTop (And' _ (one f end) _ (one g end)) ns = AreOnTop g ns × AreOnTop f (below g ns)
AreOnTop (Or' _ (one f end) _ (one g end)) ns = AreOnTop g ns × AreOnTop f (below g ns)
AreOnTop (Imp' _ (one f end) _ (one g end)) ns = AreOnTop g ns × AreOnTop f (below g ns)
AreOnTop (Iff' _ (one f end) _ (one g end)) ns = AreOnTop g ns × AreOnTop f (below g ns)
AreOnTop (All' x _ (one f end)) ns = (top 0 ns ≡ uses x.num f) × AreOnTop f (under ns)
AreOnTop (Ex' x _ (one f end)) ns = (top 0 ns ≡ uses x.num f) × AreOnTop f (under ns)
AreOnTop (All2' p _ (one f end)) ns = AreOnTop f ns
AreOnTop (Ex2' p _ (one f end)) ns = AreOnTop f ns

-- the numbers of the binders of f were put on top, and the free variables of f were counted
pub record Gathers (f : Form) (counts_old counts_new : List (ℕ × ℕ)) (old new : List ℕ) : Type 0 where
  pub counts : Counts (λ n. uses n f) counts_old counts_new
  pub on_top : AreOnTop f new
  pub rest : below f new ≡ old
