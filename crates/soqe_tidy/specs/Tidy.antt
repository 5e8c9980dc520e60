-- A tidy formula: from the outside in, each binder of a variable has the least number that it can have.
use Rattle.std.specs.Prelude.{ℕ, Bool, ◌||◌, not, eqb, ◌+◌, List, length}
use Rattle.std.specs.List.{list_any}
use Rattle.soqe_number.specs.Updates.{changed}
use Rattle.soqe_term.specs.Occurs.{first_from}
use Rattle.soqe_number.specs.Unused.{member}
use Rattle.soqe_term.specs.Renumber.{numbered, renumbered, all_renumbered}
use Rattle.soqe_form.specs.declared.form.Form.{Form, True, False, Equal, Atom, Not, Not', And, And', Or, Or', Imp, Imp', Iff, Iff', All, All', Ex, Ex', All2, All2', Ex2, Ex2', end_of-Form as end, more_of-Form as one}
use Rattle.soqe_form.specs.FreeVars.{free_occurrences, others}

-- A binder of the variable x in front of f can not have the number n: it is to be kept out, or under r another free variable
-- of f has it.
abbrev pub is_taken : List ℕ → (ℕ → ℕ) → ℕ → Form → ℕ → Bool
is_taken keep r x f n = member n keep || list_any (λ y. eqb n (r y.num)) (others x (free_occurrences f))

-- the least number that it can have: one of the first numbers, one more than there are taken ones
abbrev pub tidy_number : List ℕ → (ℕ → ℕ) → ℕ → Form → ℕ
tidy_number keep r x f = first_from (λ n. not (is_taken keep r x f n)) 0 (length keep + length (free_occurrences f))

-- The formula with tidy numbers for its binders, where r gives the numbers of its free variables. Binders of predicates stay.
abbrev pub tidied : List ℕ → (ℕ → ℕ) → Form → Form
tidied keep r True = True
tidied keep r False = False
tidied keep r (Equal s t) = Equal (renumbered r s) (renumbered r t)
tidied keep r (Atom p ts) = Atom p (all_renumbered r ts)
tidied keep r (Not' _ (one f end)) = Not (tidied keep r f)
tidied keep r (And' _ (one f end) _ (one g end)) = And (tidied keep r f) (tidied keep r g)
tidied keep r (Or' _ (one f end) _ (one g end)) = Or (tidied keep r f) (tidied keep r g)
tidied keep r (Imp' _ (one f end) _ (one g end)) = Imp (tidied keep r f) (tidied keep r g)
tidied keep r (Iff' _ (one f end) _ (one g end)) = Iff (tidied keep r f) (tidied keep r g)
tidied keep r (All' x _ (one f end)) = All (numbered x (tidy_number keep r x.num f)) (tidied keep (changed r x.num (tidy_number keep r x.num f)) f)
tidied keep r (Ex' x _ (one f end)) = Ex (numbered x (tidy_number keep r x.num f)) (tidied keep (changed r x.num (tidy_number keep r x.num f)) f)
tidied keep r (All2' p _ (one f end)) = All2 p (tidied keep r f)
tidied keep r (Ex2' p _ (one f end)) = Ex2 p (tidied keep r f)

-- the tidy formula: each binder of a variable, an outer one first, has the least number that is not to be kept out and not
-- that of another free variable of its body
abbrev pub tidy : List ℕ → Form → Form
tidy keep f = tidied keep (λ n. n) f
