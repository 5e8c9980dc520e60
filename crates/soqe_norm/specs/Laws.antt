-- What holds of signs and of a predicate replaced by a truth value.
use Rattle.std.specs.Prelude.{ℕ, ◌≡◌, Bool, true, false, cond, not, eqb, List, Some, None}
use Rattle.std.specs.Option.{is_some}
use Rattle.soqe_term.specs.World.{World, with_bound}
use Rattle.soqe_term.specs.Sorting.{Sorting}
use Rattle.soqe_form.specs.declared.form.Pred.{Pred}
use Rattle.soqe_form.specs.declared.form.Pred.TheVariants.{Bound}
use Rattle.soqe_form.specs.declared.form.Form.{Form}
use Rattle.soqe_form.specs.declared.form.Block.{Block}
use Rattle.soqe_form.specs.Truth.{truth}
use Rattle.soqe_form.specs.Free.{free, free_pred}
use Rattle.soqe_form.specs.Sorted.{sorted}
use Rattle.soqe_form.specs.Alike.{AlikeIn}
use Rattle.soqe_form.specs.Places.{first_block, quantified}
use Rattle.soqe_norm.specs.Valued.{valued, value_for, occurs_pos, occurs_neg, first_pos, first_neg}
use Rattle.soqe_norm.specs.Rises.{has_sign, Grows}

-- some atom has a positive occurrence exactly where the test of the positive sign holds
abbrev pub PosIsSign : Type 0
PosIsSign = (p : Pred) (f : Form) → occurs_pos p f ≡ has_sign true p f

-- the same for the negative sign
abbrev pub NegIsSign : Type 0
NegIsSign = (p : Pred) (f : Form) → occurs_neg p f ≡ has_sign false p f

-- where a predicate lacks the opposite sign, truth rises with a table that grows at the sign
abbrev pub TruthRises : Type 0
TruthRises = (s : Bool) (m : ℕ) (f : Form) (w : World) (t u : List ℕ → Bool) → has_sign (not s) (Bound m) f ≡ false → Grows s t u
    → truth (with_bound w m t) f ≡ true → truth (with_bound w m u) f ≡ true

-- the replaced formula is true where the formula is true with the table of that value alone
abbrev pub ReplacesTable : Type 0
ReplacesTable = (w : World) (m : ℕ) (v : Bool) (f : Form) → truth w (valued m v f) ≡ truth (with_bound w m (λ args. v)) f

-- a block is alike to its body with the value for its signs
abbrev pub ReplacesBlock : Type 0
ReplacesBlock = (e : Sorting) (b : Block) (v : Bool) → value_for b ≡ Some v → sorted e (quantified b) ≡ true
    → AlikeIn e (valued b.pred.num v b.body) (quantified b)

-- the body with a value is well sorted where the block is
abbrev pub StaysSorted : Type 0
StaysSorted = (e : Sorting) (b : Block) (v : Bool) → sorted e (quantified b) ≡ true → sorted e (valued b.pred.num v b.body) ≡ true

-- the free bound predicates stay, but for the replaced one
abbrev pub LosesPredicate : Type 0
LosesPredicate = (n m : ℕ) (v : Bool) (f : Form) → free_pred n (valued m v f) ≡ cond (eqb n m) false (free_pred n f)

-- the replaced predicate is not free
abbrev pub PredicateGone : Type 0
PredicateGone = (m : ℕ) (v : Bool) (f : Form) → free_pred m (valued m v f) ≡ false

-- no free variable is new
abbrev pub GainsNoVariable : Type 0
GainsNoVariable = (n m : ℕ) (v : Bool) (f : Form) → free n (valued m v f) ≡ true → free n f ≡ true

-- no quantifier of a predicate is new
abbrev pub GainsNoBlock : Type 0
GainsNoBlock = (m : ℕ) (v : Bool) (f : Form) → first_block f ≡ None → first_block (valued m v f) ≡ None

-- where a block has no value, each sign of its predicate has a first atom
abbrev pub MixedHasBoth : Type 0
MixedHasBoth = (b : Block) → value_for b ≡ None
    → (is_some (first_pos (Bound b.pred.num) b.body) ≡ true) × (is_some (first_neg (Bound b.pred.num) b.body) ≡ true)

-- where both signs occur, a block has no value
abbrev pub BothIsMixed : Type 0
BothIsMixed = (b : Block) → occurs_pos (Bound b.pred.num) b.body ≡ true → occurs_neg (Bound b.pred.num) b.body ≡ true → value_for b ≡ None
