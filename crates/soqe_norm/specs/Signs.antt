-- The signs with which a predicate occurs.
use Rattle.std.specs.Prelude.{Bool, true, false, cond, ◌||◌, List, [], ◌∷◌, ◌++◌}
use Rattle.soqe_form.specs.declared.form.Pred.{Pred}
use Rattle.soqe_form.specs.FreePreds.{same_pred, hides}
use Rattle.soqe_form.specs.declared.form.Form.{Form, True, False, Equal, Atom, Not', And', Or', Imp', Iff', All', Ex', All2', Ex2', end_of-Form as end, more_of-Form as one}

-- the signs of an occurrence: under `<->` it has both
pub record Signs : Type 0 where
  pub pos : Bool
  pub neg : Bool

-- the signs under a negation
abbrev pub turned : Signs → Signs
turned s = record { pos = s.neg; neg = s.pos }

-- both signs, where there is one at all
abbrev pub both : Signs → Signs
both s = record { pos = s.pos || s.neg; neg = s.pos || s.neg }

-- the signs of the atoms of a predicate, from left to right, in a formula that stands where the signs are s
abbrev pub signs_under : Signs → Pred → Form → List Signs
signs_under s p True = []
signs_under s p False = []
signs_under s p (Equal t u) = []
signs_under s p (Atom q ts) = cond (same_pred p q) (s ∷ []) []
signs_under s p (Not' _ (one f end)) = signs_under (turned s) p f
signs_under s p (And' _ (one f end) _ (one g end)) = signs_under s p f ++ signs_under s p g
signs_under s p (Or' _ (one f end) _ (one g end)) = signs_under s p f ++ signs_under s p g
signs_under s p (Imp' _ (one f end) _ (one g end)) = signs_under (turned s) p f ++ signs_under s p g
signs_under s p (Iff' _ (one f end) _ (one g end)) = signs_under (both s) p f ++ signs_under (both s) p g
signs_under s p (All' x _ (one f end)) = signs_under s p f
signs_under s p (Ex' x _ (one f end)) = signs_under s p f
signs_under s p (All2' q _ (one f end)) = cond (hides q.num p) [] (signs_under s p f)
signs_under s p (Ex2' q _ (one f end)) = cond (hides q.num p) [] (signs_under s p f)

-- the signs of the atoms of a predicate in a formula, from left to right
abbrev pub signs_of : Pred → Form → List Signs
signs_of p f = signs_under (record { pos = true; neg = false }) p f
