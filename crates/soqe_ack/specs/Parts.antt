-- How the parts of a guard are found, from the literals up.
use Rattle.std.specs.Prelude.{Bool, true, false, not, cond, ◌||◌, List}
use Rattle.soqe_term.specs.declared.term.Var.{Var}
use Rattle.soqe_term.specs.declared.term.Terms.{Terms}
use Rattle.soqe_form.specs.declared.form.Pred.{Pred}
use Rattle.soqe_form.specs.declared.form.Form.{Form, True, False, Equal, Atom, Not', And, And', Or, Or', Imp', Iff', All, All', Ex, Ex', All2', Ex2', end_of-Form as end, more_of-Form as one}
use Rattle.soqe_form.specs.FreePreds.{same_pred, hides, has_free}
use Rattle.soqe_norm.specs.Nnf.{nnf}
use Rattle.soqe_ack.specs.declared.guarding.Found.{Found}
use Rattle.soqe_ack.specs.declared.guarding.Found.TheVariants as found
use Rattle.soqe_ack.specs.Guards.{equations}

-- no guard, unless the predicate is lacking
abbrev pub unless_lacking : Bool → Found
unless_lacking true = found.NoGuard
unless_lacking false = found.Lacking

-- an atom, where one of the predicate has the sign that is looked for or has not
abbrev pub in_atom : Bool → Pred → List Var → Pred → Terms → Found
in_atom b q xs p ts = cond (same_pred q p) (cond b (found.Parts (record { cond = equations xs ts; rest = True })) found.NoGuard) found.Lacking

-- a negation: that of an atom of the predicate is a literal, and one that has the predicate otherwise is no guard
abbrev pub in_negation : Bool → Pred → List Var → Form → Found
in_negation s q xs True = found.Lacking
in_negation s q xs False = found.Lacking
in_negation s q xs (Equal a b) = found.Lacking
in_negation s q xs (Atom p ts) = in_atom (not s) q xs p ts
in_negation s q xs (Not' _ (one f end)) = unless_lacking (has_free q f)
in_negation s q xs (And' _ (one f end) _ (one g end)) = unless_lacking (has_free q f || has_free q g)
in_negation s q xs (Or' _ (one f end) _ (one g end)) = unless_lacking (has_free q f || has_free q g)
in_negation s q xs (Imp' _ (one f end) _ (one g end)) = unless_lacking (has_free q f || has_free q g)
in_negation s q xs (Iff' _ (one f end) _ (one g end)) = unless_lacking (has_free q f || has_free q g)
in_negation s q xs (All' x _ (one f end)) = unless_lacking (has_free q f)
in_negation s q xs (Ex' x _ (one f end)) = unless_lacking (has_free q f)
in_negation s q xs (All2' p _ (one f end)) = unless_lacking (cond (hides p.num q) false (has_free q f))
in_negation s q xs (Ex2' p _ (one f end)) = unless_lacking (cond (hides p.num q) false (has_free q f))

-- a conjunction
abbrev pub together : Form → Form → Found → Found → Found
together f g found.Lacking found.Lacking = found.Lacking
together f g found.Lacking (found.Parts b) = found.Parts (record { cond = Or False b.cond; rest = And f b.rest })
together f g found.Lacking found.NoGuard = found.NoGuard
together f g (found.Parts a) found.Lacking = found.Parts (record { cond = Or a.cond False; rest = And a.rest g })
together f g (found.Parts a) (found.Parts b) = found.Parts (record { cond = Or a.cond b.cond; rest = And a.rest b.rest })
together f g (found.Parts a) found.NoGuard = found.NoGuard
together f g found.NoGuard u = found.NoGuard

-- a disjunction
abbrev pub alternatives : Form → Form → Found → Found → Found
alternatives f g found.Lacking found.Lacking = found.Lacking
alternatives f g found.Lacking (found.Parts b) = found.Parts (record { cond = And (nnf true f) b.cond; rest = Or f b.rest })
alternatives f g found.Lacking found.NoGuard = found.NoGuard
alternatives f g (found.Parts a) found.Lacking = found.Parts (record { cond = And (nnf true g) a.cond; rest = Or a.rest g })
alternatives f g (found.Parts a) (found.Parts b) = found.NoGuard
alternatives f g (found.Parts a) found.NoGuard = found.NoGuard
alternatives f g found.NoGuard u = found.NoGuard

-- for all elements
abbrev pub for_all_elements : Var → Found → Found
for_all_elements x found.Lacking = found.Lacking
for_all_elements x (found.Parts a) = found.Parts (record { cond = Ex x a.cond; rest = All x a.rest })
for_all_elements x found.NoGuard = found.NoGuard

-- what a formula is to the predicate at the sign
abbrev pub found_in : Bool → Pred → List Var → Form → Found
found_in s q xs True = found.Lacking
found_in s q xs False = found.Lacking
found_in s q xs (Equal a b) = found.Lacking
found_in s q xs (Atom p ts) = in_atom s q xs p ts
found_in s q xs (Not' _ (one f end)) = in_negation s q xs f
found_in s q xs (And' _ (one f end) _ (one g end)) = together f g (found_in s q xs f) (found_in s q xs g)
found_in s q xs (Or' _ (one f end) _ (one g end)) = alternatives f g (found_in s q xs f) (found_in s q xs g)
found_in s q xs (Imp' _ (one f end) _ (one g end)) = unless_lacking (has_free q f || has_free q g)
found_in s q xs (Iff' _ (one f end) _ (one g end)) = unless_lacking (has_free q f || has_free q g)
found_in s q xs (All' x _ (one f end)) = for_all_elements x (found_in s q xs f)
found_in s q xs (Ex' x _ (one f end)) = unless_lacking (has_free q f)
found_in s q xs (All2' p _ (one f end)) = unless_lacking (cond (hides p.num q) false (has_free q f))
found_in s q xs (Ex2' p _ (one f end)) = unless_lacking (cond (hides p.num q) false (has_free q f))
