-- A predicate with one sign, replaced by a truth value.
use Rattle.std.specs.Prelude.{ℕ, suc, Bool, true, false, cond, eqb, Option, Some, None, position}
use Rattle.std.specs.List.{list_any}
use Rattle.soqe_form.specs.declared.form.Pred.{Pred}
use Rattle.soqe_form.specs.declared.form.Pred.TheVariants.{Bound}
use Rattle.soqe_form.specs.declared.form.Block.{Block}
use Rattle.soqe_form.specs.declared.form.Form.{Form, True, False, Equal, Atom, Not, Not', And, And', Or, Or', Imp, Imp', Iff, Iff', All, All', Ex, Ex', All2, All2', Ex2, Ex2', end_of-Form as end, more_of-Form as one}
use Rattle.soqe_form.specs.Constants.{constant}
use Rattle.soqe_form.specs.Free.{is_bound}
use Rattle.soqe_norm.specs.Signs.{signs_of}

-- the formula with a truth value for each free atom of the bound predicate m
abbrev pub valued : ℕ → Bool → Form → Form
valued m v True = True
valued m v False = False
valued m v (Equal s t) = Equal s t
valued m v (Atom q ts) = cond (is_bound m q) (constant v) (Atom q ts)
valued m v (Not' _ (one f end)) = Not (valued m v f)
valued m v (And' _ (one f end) _ (one g end)) = And (valued m v f) (valued m v g)
valued m v (Or' _ (one f end) _ (one g end)) = Or (valued m v f) (valued m v g)
valued m v (Imp' _ (one f end) _ (one g end)) = Imp (valued m v f) (valued m v g)
valued m v (Iff' _ (one f end) _ (one g end)) = Iff (valued m v f) (valued m v g)
valued m v (All' x _ (one f end)) = All x (valued m v f)
valued m v (Ex' x _ (one f end)) = Ex x (valued m v f)
valued m v (All2' p _ (one f end)) = All2 p (cond (eqb m p.num) f (valued m v f))
valued m v (Ex2' p _ (one f end)) = Ex2 p (cond (eqb m p.num) f (valued m v f))

-- some atom of the predicate has a positive occurrence
abbrev pub occurs_pos : Pred → Form → Bool
occurs_pos p f = list_any (λ s. s.pos) (signs_of p f)

-- some has a negative one
abbrev pub occurs_neg : Pred → Form → Bool
occurs_neg p f = list_any (λ s. s.neg) (signs_of p f)

-- the truth value by whether the quantifier is existential and which signs occur; none for both signs
abbrev pub value_by : Bool → Bool → Bool → Option Bool
value_by true pos false = Some true
value_by true false true = Some false
value_by false pos false = Some false
value_by false false true = Some true
value_by exists true true = None

-- the truth value that replaces a block's predicate
abbrev pub value_for : Block → Option Bool
value_for b = value_by b.exists (occurs_pos (Bound b.pred.num) b.body) (occurs_neg (Bound b.pred.num) b.body)

-- a place counted from 1
abbrev pub from_one : Option ℕ → Option ℕ
from_one None = None
from_one (Some n) = Some (suc n)

-- the first atom of the predicate with a positive occurrence, counted from 1
abbrev pub first_pos : Pred → Form → Option ℕ
first_pos p f = from_one (position (λ s. s.pos) (signs_of p f))

-- the first with a negative one, counted from 1
abbrev pub first_neg : Pred → Form → Option ℕ
first_neg p f = from_one (position (λ s. s.neg) (signs_of p f))
