-- The cases of a formula for a predicate. Their law needs distinct bound variables.
use Rattle.std.specs.Prelude.{cond, ◌||◌, List, [], ◌∷◌, ◌++◌, map}
use Rattle.soqe_term.specs.declared.term.Var.{Var}
use Rattle.soqe_form.specs.declared.form.Pred.{Pred}
use Rattle.soqe_form.specs.declared.form.Form.{Form, True, False, Equal, Atom, Not, Not', And, And', Or, Or', Imp, Imp', Iff, Iff', All, All', Ex, Ex', All2, All2', Ex2, Ex2', end_of-Form as end, more_of-Form as one}
use Rattle.soqe_form.specs.FreePreds.{has_free}
use Rattle.soqe_norm.specs.declared.case_list.Case.{Case}
use Rattle.soqe_norm.specs.Folds.{any_of, case_form}

-- the one case of a formula that isn't split
abbrev pub whole : Form → List Case
whole f = record { vars = []; conj = f ∷ [] } ∷ []

-- two cases together
abbrev pub both : Case → Case → Case
both b c = record { vars = b.vars ++ c.vars; conj = b.conj ++ c.conj }

-- each case of the first list with each of the second, in that order
abbrev pub pairings : List Case → List Case → List Case
pairings [] cs = []
pairings (b ∷ bs) cs = map (both b) cs ++ pairings bs cs

-- the case below one more existential variable
abbrev pub below : Var → Case → Case
below x c = record c { vars = x ∷ c.vars }

-- the cases of a formula: only where the predicate stands are `&`, `|` and `ex` split
abbrev pub cases_of : Pred → Form → List Case
cases_of q True = whole True
cases_of q False = whole False
cases_of q (Equal s t) = whole (Equal s t)
cases_of q (Atom p ts) = whole (Atom p ts)
cases_of q (Not' _ (one f end)) = whole (Not f)
cases_of q (And' _ (one f end) _ (one g end)) = cond (has_free q f || has_free q g) (pairings (cases_of q f) (cases_of q g)) (whole (And f g))
cases_of q (Or' _ (one f end) _ (one g end)) = cond (has_free q f || has_free q g) (cases_of q f ++ cases_of q g) (whole (Or f g))
cases_of q (Imp' _ (one f end) _ (one g end)) = whole (Imp f g)
cases_of q (Iff' _ (one f end) _ (one g end)) = whole (Iff f g)
cases_of q (All' x _ (one f end)) = whole (All x f)
cases_of q (Ex' x _ (one f end)) = cond (has_free q f) (map (below x) (cases_of q f)) (whole (Ex x f))
cases_of q (All2' p _ (one f end)) = whole (All2 p f)
cases_of q (Ex2' p _ (one f end)) = whole (Ex2 p f)

-- the formula of a case: its variables in front of its conjuncts
abbrev pub form_of : Case → Form
form_of c = case_form c.vars c.conj

-- some case of a list holds
abbrev pub some_case : List Case → Form
some_case cs = any_of (map form_of cs)
