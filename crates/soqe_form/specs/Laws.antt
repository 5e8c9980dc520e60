-- Laws of truth and of places, which every elimination rests on.
use Rattle.std.specs.Prelude.{ℕ, ◌≡◌, Bool, true, false, is_some, map, List, Some}
use Rattle.soqe_term.specs.World.{World, with_bound}
use Rattle.soqe_term.specs.Occurs.{AgreeOn}
use Rattle.soqe_number.specs.Finite.{every_list, some_list, product, entry}
use Rattle.soqe_term.specs.Sorting.{Sorting, over_bound}
use Rattle.soqe_term.specs.Fits.{Fits, Matches}
use Rattle.soqe_form.specs.declared.form.Form.{Form}
use Rattle.soqe_form.specs.declared.form.Block.{Block}
use Rattle.soqe_form.specs.Truth.{truth}
use Rattle.soqe_form.specs.Free.{free, free_pred}
use Rattle.soqe_form.specs.Sorted.{sorted}
use Rattle.soqe_form.specs.Alike.{AlikeIn}
use Rattle.soqe_form.specs.Pure.{IsBare, is_first_order}
use Rattle.soqe_form.specs.FreeVars.{free_vars, is_among}
use Rattle.soqe_form.specs.Places.{part_at, put_at, scope_at, first_block, quantified, has_blocks}

-- truth depends on the free variables and the free bound predicates alone
abbrev pub FreeNamesDecide : Type 0
FreeNamesDecide = (w : World) (e d : ℕ → ℕ) (b c : ℕ → List ℕ → Bool) (f : Form)
    → AgreeOn (λ n. free n f) e d → AgreeOn (λ n. free_pred n f) b c
    → truth (record w { element = e; bound = b }) f ≡ truth (record w { element = d; bound = c }) f

-- worlds that agree in range give one truth to a well-sorted formula
abbrev pub RangeDecides : Type 0
RangeDecides = (w v : World) (e : Sorting) (f : Form) → Fits w e → Matches e w v → sorted e f ≡ true → truth w f ≡ truth v f

-- a formula that is true with a table given as a function is true with a listed one
abbrev pub SomeTableIsListed : Type 0
SomeTableIsListed = (w : World) (e : Sorting) (m : ℕ) (sorts : List ℕ) (g : List ℕ → Bool) (f : Form)
    → Fits w e → sorted (over_bound e m sorts) f ≡ true → truth (with_bound w m g) f ≡ true
    → some_list (product (map w.size sorts)) (λ t. truth (with_bound w m (entry (map w.size sorts) t)) f) ≡ true

-- a formula that is true with every listed table is true with every table given as a function
abbrev pub EveryTableIsListed : Type 0
EveryTableIsListed = (w : World) (e : Sorting) (m : ℕ) (sorts : List ℕ) (g : List ℕ → Bool) (f : Form)
    → Fits w e → sorted (over_bound e m sorts) f ≡ true
    → every_list (product (map w.size sorts)) (λ t. truth (with_bound w m (entry (map w.size sorts) t)) f) ≡ true
    → truth (with_bound w m g) f ≡ true

-- a part replaced by one of equal truth in its scope keeps the truth of the whole
abbrev pub PutKeepsTruth : Type 0
PutKeepsTruth = (p : List ℕ) (f old by : Form) → part_at p f ≡ Some old → (e : Sorting) → AlikeIn (scope_at p f e) by old → AlikeIn e (put_at p by f) f

-- a part replaced by one that is well sorted in its scope keeps the whole well sorted
abbrev pub PutKeepsSorts : Type 0
PutKeepsSorts = (p : List ℕ) (f old by : Form) → part_at p f ≡ Some old → (e : Sorting) → sorted (scope_at p f e) by ≡ true → sorted e f ≡ true
    → sorted e (put_at p by f) ≡ true

-- a part of a well-sorted formula is well sorted in its scope
abbrev pub PartsAreSorted : Type 0
PartsAreSorted = (p : List ℕ) (f old : Form) → part_at p f ≡ Some old → (e : Sorting) → sorted e f ≡ true → sorted (scope_at p f e) old ≡ true

-- the first block stands at its place
abbrev pub BlockStands : Type 0
BlockStands = (f : Form) (b : Block) → first_block f ≡ Some b → part_at b.place f ≡ Some (quantified b)

-- a formula has a first block exactly where it has a quantifier of a predicate
abbrev pub BlockIsFound : Type 0
BlockIsFound = (f : Form) → is_some (first_block f) ≡ has_blocks f

-- the body of the first block has no quantifier of a predicate
abbrev pub BlockIsInnermost : Type 0
BlockIsInnermost = (f : Form) (b : Block) → first_block f ≡ Some b → has_blocks b.body ≡ false

-- the body of the first block of a well-sorted formula is well sorted where the block stands, its predicate known
abbrev pub BlockIsSorted : Type 0
BlockIsSorted = (f : Form) (b : Block) → first_block f ≡ Some b → (e : Sorting) → sorted e f ≡ true
    → sorted (over_bound (scope_at b.place f e) b.pred.num b.pred.args) b.body ≡ true

-- a free variable of a well-sorted formula is known
abbrev pub FreeIsKnown : Type 0
FreeIsKnown = (n : ℕ) (f : Form) (e : Sorting) → sorted e f ≡ true → free n f ≡ true → is_some (e.variable n) ≡ true

-- where neither a Skolem function nor a bound predicate is known, a well-sorted formula without quantified predicates is of
-- first order
abbrev pub BareIsFirstOrder : Type 0
BareIsFirstOrder = (f : Form) (e : Sorting) → IsBare e → sorted e f ≡ true → has_blocks f ≡ false → is_first_order f ≡ true

-- the free variables of a formula are those of the list
abbrev pub FreeVarsAreListed : Type 0
FreeVarsAreListed = (f : Form) (n : ℕ) → is_among (free_vars f) n ≡ free n f
