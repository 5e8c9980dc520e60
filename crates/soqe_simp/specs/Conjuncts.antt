-- The conjunct of a formula that says which element a variable is, and the formula without it.
--
-- The conjuncts of A & B are those of A, then those of B; those of `ex y. A` are those of A; any other formula is its own
-- conjunct. The numbers ys are those of the binders that were passed on the way to a part of the formula.
use Rattle.std.specs.Prelude.{ℕ, eqb, Bool, ◌&&◌, not, List, ◌∷◌, Option, None}
use Rattle.std.specs.List.{list_any}
use Rattle.std.specs.Option.{option_map}
use Rattle.soqe_term.specs.declared.term.Var.{Var}
use Rattle.soqe_term.specs.declared.term.Term.{Term, Var as var}
use Rattle.soqe_term.specs.Equal.{equal_terms}
use Rattle.soqe_term.specs.Occurs.{occurs}
use Rattle.soqe_number.specs.Unused.{member}
use Rattle.soqe_term.specs.Sorting.{own_sort}
use Rattle.soqe_form.specs.declared.form.Form.{Form, True, False, Equal, Atom, Not, Not', And, And', Or, Or', Imp, Imp', Iff, Iff', All, All', Ex, Ex', All2, All2', Ex2, Ex2', end_of-Form as end, more_of-Form as one}
use Rattle.soqe_simp.specs.declared.conjuncts.Solved.{Solved}
use Rattle.soqe_simp.specs.Shapes.{given, first_of, on_not, on_imp}

-- the same term, and what is made of the rest
abbrev pub around : (Form → Form) → Solved → Solved
around k s = record s { rest = k s.rest }

-- one of the numbers is that of a variable of the term
abbrev pub occurs_one : List ℕ → Term → Bool
occurs_one ys t = list_any (λ y. occurs y t) ys

-- s = t says that x is t: s is x, t has the sort of x, and has neither x nor a variable that was passed; nor was x passed
abbrev pub defines : List ℕ → Var → Term → Term → Bool
defines ys x s t = equal_terms (var x) s && (eqb (own_sort t) x.sort && (not (occurs x.num t) && (not (occurs_one ys t) && not (member x.num ys))))

-- an equation that says what x is; where both sides are fit, x is the left one
abbrev pub solution : List ℕ → Var → Term → Term → Option Solved
solution ys x s t = first_of (given (defines ys x s t) (record { term = t; rest = True })) (given (defines ys x t s) (record { term = s; rest = True }))

-- the first conjunct that says what x is
abbrev pub solved : List ℕ → Var → Form → Option Solved
solved ys x True = None
solved ys x False = None
solved ys x (Equal s t) = solution ys x s t
solved ys x (Atom p ts) = None
solved ys x (Not' _ (one f end)) = None
solved ys x (And' _ (one f end) _ (one g end)) = first_of (option_map (around (λ r. And r g)) (solved ys x f)) (option_map (around (λ r. And f r)) (solved ys x g))
solved ys x (Or' _ (one f end) _ (one g end)) = None
solved ys x (Imp' _ (one f end) _ (one g end)) = None
solved ys x (Iff' _ (one f end) _ (one g end)) = None
solved ys x (All' y _ (one f end)) = None
solved ys x (Ex' y _ (one f end)) = option_map (around (λ r. Ex y r)) (solved (y.num ∷ ys) x f)
solved ys x (All2' p _ (one f end)) = None
solved ys x (Ex2' p _ (one f end)) = None

-- what the search k finds behind all binders `all y.` that stand in front
abbrev pub below_alls : (List ℕ → Form → Option Solved) → List ℕ → Form → Option Solved
below_alls k ys True = k ys True
below_alls k ys False = k ys False
below_alls k ys (Equal s t) = k ys (Equal s t)
below_alls k ys (Atom p ts) = k ys (Atom p ts)
below_alls k ys (Not' _ (one f end)) = k ys (Not f)
below_alls k ys (And' _ (one f end) _ (one g end)) = k ys (And f g)
below_alls k ys (Or' _ (one f end) _ (one g end)) = k ys (Or f g)
below_alls k ys (Imp' _ (one f end) _ (one g end)) = k ys (Imp f g)
below_alls k ys (Iff' _ (one f end) _ (one g end)) = k ys (Iff f g)
below_alls k ys (All' y _ (one f end)) = option_map (around (λ r. All y r)) (below_alls k (y.num ∷ ys) f)
below_alls k ys (Ex' y _ (one f end)) = k ys (Ex y f)
below_alls k ys (All2' p _ (one f end)) = k ys (All2 p f)
below_alls k ys (Ex2' p _ (one f end)) = k ys (Ex2 p f)

-- the first conjunct of C in ~C that says what x is
abbrev pub solved_not : Var → List ℕ → Form → Option Solved
solved_not x ys = on_not (λ c. option_map (around (λ r. Not r)) (solved ys x c))

-- and the first one of C in C -> D
abbrev pub solved_imp : Var → List ℕ → Form → Option Solved
solved_imp x ys = on_imp (λ c d. option_map (around (λ r. Imp r d)) (solved ys x c))
