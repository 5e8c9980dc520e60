-- Free variables replaced by terms, with no capture. A binding gives the terms of variables.
use Rattle.std.specs.Prelude.{ℕ, suc, zero, max, eqb, Bool, false, ◌||◌, ◌&&◌, cond, not, List, [], ◌∷◌}
use Rattle.soqe_term.specs.declared.bindings.Bound.{Bound}
use Rattle.soqe_term.specs.declared.term.Var.{Var}
use Rattle.soqe_term.specs.declared.term.Term.{Var as var}
use Rattle.soqe_term.specs.Renumber.{numbered}
use Rattle.soqe_term.specs.Occurs.{occurs, above, first_from}
use Rattle.soqe_term.specs.Subst.{replaced, all_replaced}
use Rattle.soqe_term.specs.Bindings.{bound_in, all_bound_in}
use Rattle.soqe_form.specs.Free.{free}
use Rattle.soqe_form.specs.Mentions.{mentions, form_above}
use Rattle.soqe_form.specs.declared.form.Form.{Form, True, False, Equal, Atom, Not, Not', And, And', Or, Or', Imp, Imp', Iff, Iff', All, All', Ex, Ex', All2, All2', Ex2, Ex2', end_of-Form as end, more_of-Form as one}

-- the bindings of the variables whose numbers fail the test
abbrev pub visible : (ℕ → Bool) → List Bound → List Bound
visible p [] = []
visible p (b ∷ more) = cond (p b.var.num) (visible p more) (b ∷ visible p more)

-- the bindings of the variables other than y
abbrev pub without : ℕ → List Bound → List Bound
without y s = visible (λ n. eqb n y) s

-- n is the number of a variable of the binding, or occurs in one of its terms
abbrev pub bound_mentions : ℕ → List Bound → Bool
bound_mentions n [] = false
bound_mentions n (b ∷ more) = eqb n b.var.num || (occurs n b.term || bound_mentions n more)

-- every number from here on is neither
abbrev pub bound_above : List Bound → ℕ
bound_above [] = 0
bound_above (b ∷ more) = max (suc b.var.num) (max (above b.term) (bound_above more))

-- y occurs in the term of a variable whose number passes the test
abbrev pub caught : ℕ → (ℕ → Bool) → List Bound → Bool
caught y p [] = false
caught y p (b ∷ more) = (p b.var.num && occurs y b.term) || caught y p more

-- the variable z in place of each free occurrence of the variable y, where no binder of the formula binds z
abbrev pub renamed : ℕ → Var → Form → Form
renamed y z True = True
renamed y z False = False
renamed y z (Equal s t) = Equal (replaced y (var z) s) (replaced y (var z) t)
renamed y z (Atom p ts) = Atom p (all_replaced y (var z) ts)
renamed y z (Not' _ (one f end)) = Not (renamed y z f)
renamed y z (And' _ (one f end) _ (one g end)) = And (renamed y z f) (renamed y z g)
renamed y z (Or' _ (one f end) _ (one g end)) = Or (renamed y z f) (renamed y z g)
renamed y z (Imp' _ (one f end) _ (one g end)) = Imp (renamed y z f) (renamed y z g)
renamed y z (Iff' _ (one f end) _ (one g end)) = Iff (renamed y z f) (renamed y z g)
renamed y z (All' x _ (one f end)) = All x (cond (eqb x.num y) f (renamed y z f))
renamed y z (Ex' x _ (one f end)) = Ex x (cond (eqb x.num y) f (renamed y z f))
renamed y z (All2' p _ (one f end)) = All2 p (renamed y z f)
renamed y z (Ex2' p _ (one f end)) = Ex2 p (renamed y z f)

-- a number that stands in neither the binding nor the formula
abbrev pub lacks : List Bound → Form → ℕ → Bool
lacks s f n = not (bound_mentions n s || mentions n f)

-- the least such number
abbrev pub fresh : List Bound → Form → ℕ
fresh s f = first_from (lacks s f) 0 (max (bound_above s) (form_above f))

-- a binder of y in front of f would bind y in a term that takes the place of a free variable of f
abbrev pub catches : List Bound → Var → Form → Bool
catches s y f = caught y.num (λ n. free n f) s

-- the binder of y in front of f, with a new number where it would catch a variable
abbrev pub new_binder : List Bound → Var → Form → Var
new_binder s y f = cond (catches s y f) (numbered y (fresh s f)) y

-- and its body
abbrev pub new_body : List Bound → Var → Form → Form
new_body s y f = cond (catches s y f) (renamed y.num (numbered y (fresh s f)) f) f

-- the free variables of a formula that is no deeper than k replaced by their terms, all at once
abbrev pub sub : ℕ → List Bound → Form → Form
sub zero s f = f
sub (suc k) s True = True
sub (suc k) s False = False
sub (suc k) s (Equal t u) = Equal (bound_in s t) (bound_in s u)
sub (suc k) s (Atom p ts) = Atom p (all_bound_in s ts)
sub (suc k) s (Not' _ (one f end)) = Not (sub k s f)
sub (suc k) s (And' _ (one f end) _ (one g end)) = And (sub k s f) (sub k s g)
sub (suc k) s (Or' _ (one f end) _ (one g end)) = Or (sub k s f) (sub k s g)
sub (suc k) s (Imp' _ (one f end) _ (one g end)) = Imp (sub k s f) (sub k s g)
sub (suc k) s (Iff' _ (one f end) _ (one g end)) = Iff (sub k s f) (sub k s g)
sub (suc k) s (All' y _ (one f end)) = All (new_binder (without y.num s) y f) (sub k (without y.num s) (new_body (without y.num s) y f))
sub (suc k) s (Ex' y _ (one f end)) = Ex (new_binder (without y.num s) y f) (sub k (without y.num s) (new_body (without y.num s) y f))
sub (suc k) s (All2' p _ (one f end)) = All2 p (sub k s f)
sub (suc k) s (Ex2' p _ (one f end)) = Ex2 p (sub k s f)
