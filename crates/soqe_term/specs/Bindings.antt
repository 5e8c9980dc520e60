-- Terms for several variables at once.
use Rattle.std.specs.Prelude.{ℕ, ◌≡◌, true, List, [], ◌∷◌, eqb, cond, map, Option, Some, None}
use Rattle.std.specs.List.{All, IsDistinct}
use Rattle.soqe_term.specs.declared.bindings.Bound.{Bound}
use Rattle.soqe_term.specs.declared.term.Var.{Var}
use Rattle.soqe_term.specs.declared.term.Term.{Term, Var as var, App}
use Rattle.soqe_term.specs.declared.term.Terms.{Terms, Nil, Cons, Cons', end_of-Term as end, more_of-Term as one, end_of-Terms as ends, more_of-Terms as ones}
use Rattle.soqe_term.specs.World.{World}
use Rattle.soqe_number.specs.Updates.{changed}
use Rattle.soqe_term.specs.Value.{value}
use Rattle.soqe_term.specs.Sorting.{Sorting, over_var, own_sort, sorted_term}

-- the term of the variable with a number
abbrev pub bound_term : List Bound → ℕ → Option Term
bound_term [] n = None
bound_term (b ∷ more) n = cond (eqb n b.var.num) (Some b.term) (bound_term more n)

-- the term that is there, or the given one
abbrev pub term_or : Term → Option Term → Term
term_or t None = t
term_or t (Some u) = u

-- what takes the place of a variable
abbrev pub term_of : List Bound → Var → Term
term_of s y = term_or (var y) (bound_term s y.num)

abbrev mutual
  -- the term with its bound variables replaced, all at once
  pub bound_in : List Bound → Term → Term
  bound_in s (var y) = term_of s y
  bound_in s (App f n ts) = App f n (all_bound_in s ts)

  pub all_bound_in : List Bound → Terms → Terms
  all_bound_in s Nil = Nil
  all_bound_in s (Cons' _ (one t end) _ (ones ts ends)) = Cons (bound_in s t) (all_bound_in s ts)

-- the elements of the variables, where the bound ones have their terms' values
abbrev pub assigned : World → List Bound → ℕ → ℕ
assigned w [] = w.element
assigned w (b ∷ more) = changed (assigned w more) b.var.num (value w b.term)

-- the world with these elements
abbrev pub with_binding : World → List Bound → World
with_binding w s = record w { element = assigned w s }

-- the sorting that knows the bound variables too
abbrev pub over_binding : Sorting → List Bound → Sorting
over_binding e [] = e
over_binding e (b ∷ more) = over_var (over_binding e more) b.var.num b.var.sort

-- each term has the sort of its variable
abbrev pub HasOwnSorts : List Bound → Type 0
HasOwnSorts s = All (λ b. own_sort b.term ≡ b.var.sort) s

-- each term is well sorted
abbrev pub AreSorted : Sorting → List Bound → Type 0
AreSorted e s = All (λ b. sorted_term e b.term ≡ true) s

-- no variable is bound twice
abbrev pub HasDistinctVars : List Bound → Type 0
HasDistinctVars s = IsDistinct eqb (map (λ b. b.var.num) s)

-- in every world, r has the value of t where each bound variable has the value of its term
abbrev pub HasValueOfBound : List Bound → Term → Term → Type 0
HasValueOfBound s t r = (w : World) → value w r ≡ value (with_binding w s) t

-- r is well sorted, of the sort of t, wherever the terms are and have the sorts of their variables, and t is with these
abbrev pub KeepsSortOfBound : List Bound → Term → Term → Type 0
KeepsSortOfBound s t r =
    (e : Sorting) → HasOwnSorts s → AreSorted e s → sorted_term (over_binding e s) t ≡ true → (sorted_term e r ≡ true) × (own_sort r ≡ own_sort t)
