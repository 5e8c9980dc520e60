-- The free variables of a formula, in order.
use Rattle.std.specs.Prelude.{ℕ, Bool, false, ◌||◌, not, eqb, cond, List, [], ◌∷◌, ◌++◌, filter}
use Rattle.std.specs.List.{list_any}
use Rattle.soqe_term.specs.declared.term.Var.{Var}
use Rattle.soqe_term.specs.declared.term.Term.{Term, Var as var, App}
use Rattle.soqe_term.specs.declared.term.Terms.{Terms, Nil, Cons', end_of-Term as end-t, more_of-Term as one-t, end_of-Terms as ends-t, more_of-Terms as ones-t}
use Rattle.soqe_form.specs.declared.form.Form.{Form, True, False, Equal, Atom, Not', And', Or', Imp', Iff', All', Ex', All2', Ex2', end_of-Form as end, more_of-Form as one}

abbrev mutual
  -- the variables of a term, at each of their occurrences, from left to right
  pub occurrences : Term → List Var
  occurrences (var x) = x ∷ []
  occurrences (App f s ts) = all_occurrences ts

  pub all_occurrences : Terms → List Var
  all_occurrences Nil = []
  all_occurrences (Cons' _ (one-t t end-t) _ (ones-t ts ends-t)) = occurrences t ++ all_occurrences ts

-- the variables of the list that are not x
abbrev pub others : ℕ → List Var → List Var
others x ys = filter (λ y. not (eqb y.num x)) ys

-- the variables of a formula, at each of their occurrences that no binder binds, from left to right
abbrev pub free_occurrences : Form → List Var
free_occurrences True = []
free_occurrences False = []
free_occurrences (Equal s t) = occurrences s ++ occurrences t
free_occurrences (Atom p ts) = all_occurrences ts
free_occurrences (Not' _ (one f end)) = free_occurrences f
free_occurrences (And' _ (one f end) _ (one g end)) = free_occurrences f ++ free_occurrences g
free_occurrences (Or' _ (one f end) _ (one g end)) = free_occurrences f ++ free_occurrences g
free_occurrences (Imp' _ (one f end) _ (one g end)) = free_occurrences f ++ free_occurrences g
free_occurrences (Iff' _ (one f end) _ (one g end)) = free_occurrences f ++ free_occurrences g
free_occurrences (All' x _ (one f end)) = others x.num (free_occurrences f)
free_occurrences (Ex' x _ (one f end)) = others x.num (free_occurrences f)
free_occurrences (All2' p _ (one f end)) = free_occurrences f
free_occurrences (Ex2' p _ (one f end)) = free_occurrences f

-- the first of the variables with each number, but for the numbers that pass the test
abbrev pub firsts : (ℕ → Bool) → List Var → List Var
firsts p [] = []
firsts p (x ∷ xs) = cond (p x.num) (firsts p xs) (x ∷ firsts (λ n. eqb n x.num || p n) xs)

-- the free variables of a formula in order of first occurrence, each number once
abbrev pub free_vars : Form → List Var
free_vars f = firsts (λ n. false) (free_occurrences f)

-- the number is that of a variable of the list
abbrev pub is_among : List Var → ℕ → Bool
is_among xs n = list_any (λ x. eqb n x.num) xs
