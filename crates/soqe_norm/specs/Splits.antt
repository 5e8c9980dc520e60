-- The cases of a formula's split for a predicate, as found from below.
use Rattle.std.specs.Prelude.{cond, List, ◌++◌, map}
use Rattle.soqe_term.specs.declared.term.Var.{Var}
use Rattle.soqe_form.specs.declared.form.Pred.{Pred}
use Rattle.soqe_form.specs.declared.form.Form.{Form, True, False, Equal, Atom, Not, Not', And, And', Or, Or', Imp, Imp', Iff, Iff', All, All', Ex, Ex', All2, All2', Ex2, Ex2', end_of-Form as end, more_of-Form as one}
use Rattle.soqe_form.specs.FreePreds.{has_free}
use Rattle.soqe_norm.specs.declared.case_list.Case.{Case}
use Rattle.soqe_norm.specs.declared.splits.Part.{Part}
use Rattle.soqe_norm.specs.declared.splits.Part.TheVariants as part
use Rattle.soqe_norm.specs.declared.splits.Split.{Split, Whole, Both', Either', Below', end_of-Split as end-s, more_of-Split as one-s}
use Rattle.soqe_norm.specs.Cases.{whole, pairings, below}

-- the cases of a split
abbrev pub cases_in : Split → List Case
cases_in (Whole f) = whole f
cases_in (Both' _ (one-s s end-s) _ (one-s t end-s)) = pairings (cases_in s) (cases_in t)
cases_in (Either' _ (one-s s end-s) _ (one-s t end-s)) = cases_in s ++ cases_in t
cases_in (Below' x _ (one-s s end-s)) = map (below x) (cases_in s)

-- what is seen of a formula: it lacks the predicate, or it falls into these cases
pub data Seen : Type 0 where
  Lacking : Form → Seen
  Falls : List Case → Seen

-- what was found, by its cases
abbrev pub seen : Part → Seen
seen (part.Lacks f) = Lacking f
seen (part.Splits s) = Falls (cases_in s)

-- the cases, a formula without the predicate being whole
abbrev pub cases_seen : Seen → List Case
cases_seen (Lacking f) = whole f
cases_seen (Falls cs) = cs

-- a formula that isn't split
abbrev pub undivided : Pred → Form → Seen
undivided q f = cond (has_free q f) (Falls (whole f)) (Lacking f)

-- two parts: they fall into cases where one of them has the predicate
abbrev pub in_two : (Form → Form → Form) → (List Case → List Case → List Case) → Seen → Seen → Seen
in_two make op (Lacking f) (Lacking g) = Lacking (make f g)
in_two make op (Lacking f) (Falls cs) = Falls (op (whole f) cs)
in_two make op (Falls bs) u = Falls (op bs (cases_seen u))

-- a part below an existential variable
abbrev pub below_it : Var → Seen → Seen
below_it x (Lacking f) = Lacking (Ex x f)
below_it x (Falls cs) = Falls (map (below x) cs)

-- the cases of the formula, or that it lacks the predicate
abbrev pub split_cases : Pred → Form → Seen
split_cases q True = Lacking True
split_cases q False = Lacking False
split_cases q (Equal s t) = Lacking (Equal s t)
split_cases q (Atom p ts) = undivided q (Atom p ts)
split_cases q (Not' _ (one f end)) = undivided q (Not f)
split_cases q (And' _ (one f end) _ (one g end)) = in_two And pairings (split_cases q f) (split_cases q g)
split_cases q (Or' _ (one f end) _ (one g end)) = in_two Or (λ bs cs. bs ++ cs) (split_cases q f) (split_cases q g)
split_cases q (Imp' _ (one f end) _ (one g end)) = undivided q (Imp f g)
split_cases q (Iff' _ (one f end) _ (one g end)) = undivided q (Iff f g)
split_cases q (All' x _ (one f end)) = undivided q (All x f)
split_cases q (Ex' x _ (one f end)) = below_it x (split_cases q f)
split_cases q (All2' p _ (one f end)) = undivided q (All2 p f)
split_cases q (Ex2' p _ (one f end)) = undivided q (Ex2 p f)
