-- One sign of a predicate as a test, and tables that grow at a sign.
use Rattle.std.specs.Prelude.{ℕ, ◌≡◌, Bool, true, false, cond, not, ◌&&◌, ◌||◌, List}
use Rattle.soqe_form.specs.declared.form.Pred.{Pred}
use Rattle.soqe_form.specs.declared.form.Form.{Form, True, False, Equal, Atom, Not', And', Or', Imp', Iff', All', Ex', All2', Ex2', end_of-Form as end, more_of-Form as one}
use Rattle.soqe_form.specs.FreePreds.{same_pred, hides}

-- the predicate has an occurrence of the sign, true for positive
abbrev pub has_sign : Bool → Pred → Form → Bool
has_sign s p True = false
has_sign s p False = false
has_sign s p (Equal a b) = false
has_sign s p (Atom q ts) = s && same_pred p q
has_sign s p (Not' _ (one f end)) = has_sign (not s) p f
has_sign s p (And' _ (one f end) _ (one g end)) = has_sign s p f || has_sign s p g
has_sign s p (Or' _ (one f end) _ (one g end)) = has_sign s p f || has_sign s p g
has_sign s p (Imp' _ (one f end) _ (one g end)) = has_sign (not s) p f || has_sign s p g
has_sign s p (Iff' _ (one f end) _ (one g end)) = (has_sign true p f || has_sign false p f) || (has_sign true p g || has_sign false p g)
has_sign s p (All' x _ (one f end)) = has_sign s p f
has_sign s p (Ex' x _ (one f end)) = has_sign s p f
has_sign s p (All2' q _ (one f end)) = cond (hides q.num p) false (has_sign s p f)
has_sign s p (Ex2' q _ (one f end)) = cond (hides q.num p) false (has_sign s p f)

-- wherever t has the value s, u has it too: for true t is contained in u, for false u in t
abbrev pub Grows : Bool → (List ℕ → Bool) → (List ℕ → Bool) → Type 0
Grows s t u = (args : List ℕ) → t args ≡ s → u args ≡ s
