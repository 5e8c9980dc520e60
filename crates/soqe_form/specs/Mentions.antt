-- The numbers that stand in a formula, and how deep it is.
use Rattle.std.specs.Prelude.{ℕ, suc, max, eqb, Bool, false, ◌||◌}
use Rattle.soqe_term.specs.Occurs.{occurs, occurs_any, above, all_above}
use Rattle.soqe_form.specs.declared.form.Form.{Form, True, False, Equal, Atom, Not', And', Or', Imp', Iff', All', Ex', All2', Ex2', end_of-Form as end, more_of-Form as one}

-- the number is that of a variable, or of a binder of a variable
abbrev pub mentions : ℕ → Form → Bool
mentions n True = false
mentions n False = false
mentions n (Equal s t) = occurs n s || occurs n t
mentions n (Atom p ts) = occurs_any n ts
mentions n (Not' _ (one f end)) = mentions n f
mentions n (And' _ (one f end) _ (one g end)) = mentions n f || mentions n g
mentions n (Or' _ (one f end) _ (one g end)) = mentions n f || mentions n g
mentions n (Imp' _ (one f end) _ (one g end)) = mentions n f || mentions n g
mentions n (Iff' _ (one f end) _ (one g end)) = mentions n f || mentions n g
mentions n (All' x _ (one f end)) = eqb n x.num || mentions n f
mentions n (Ex' x _ (one f end)) = eqb n x.num || mentions n f
mentions n (All2' p _ (one f end)) = mentions n f
mentions n (Ex2' p _ (one f end)) = mentions n f

-- every number from here on is that of no variable and of no binder
abbrev pub form_above : Form → ℕ
form_above True = 0
form_above False = 0
form_above (Equal s t) = max (above s) (above t)
form_above (Atom p ts) = all_above ts
form_above (Not' _ (one f end)) = form_above f
form_above (And' _ (one f end) _ (one g end)) = max (form_above f) (form_above g)
form_above (Or' _ (one f end) _ (one g end)) = max (form_above f) (form_above g)
form_above (Imp' _ (one f end) _ (one g end)) = max (form_above f) (form_above g)
form_above (Iff' _ (one f end) _ (one g end)) = max (form_above f) (form_above g)
form_above (All' x _ (one f end)) = max (suc x.num) (form_above f)
form_above (Ex' x _ (one f end)) = max (suc x.num) (form_above f)
form_above (All2' p _ (one f end)) = form_above f
form_above (Ex2' p _ (one f end)) = form_above f

-- how deep a formula is
abbrev pub depth : Form → ℕ
depth True = 1
depth False = 1
depth (Equal s t) = 1
depth (Atom p ts) = 1
depth (Not' _ (one f end)) = suc (depth f)
depth (And' _ (one f end) _ (one g end)) = suc (max (depth f) (depth g))
depth (Or' _ (one f end) _ (one g end)) = suc (max (depth f) (depth g))
depth (Imp' _ (one f end) _ (one g end)) = suc (max (depth f) (depth g))
depth (Iff' _ (one f end) _ (one g end)) = suc (max (depth f) (depth g))
depth (All' x _ (one f end)) = suc (depth f)
depth (Ex' x _ (one f end)) = suc (depth f)
depth (All2' p _ (one f end)) = suc (depth f)
depth (Ex2' p _ (one f end)) = suc (depth f)
