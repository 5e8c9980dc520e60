-- Which terms are well sorted.
use Rattle.std.specs.Prelude.{ℕ, Bool, true, false, eqb, ◌&&◌, List, [], ◌∷◌, Option, Some, None}
use Rattle.soqe_term.specs.declared.term.Sym.{Sym}
use Rattle.soqe_term.specs.declared.term.Sym.TheVariants.{Fun, Skolem}
use Rattle.soqe_term.specs.declared.term.Term.{Term, Var as var, App}
use Rattle.soqe_term.specs.declared.term.Terms.{Terms, Nil, Cons', end_of-Term as end, more_of-Term as one, end_of-Terms as ends, more_of-Terms as ones}
use Rattle.soqe_number.specs.Updates.{changed}

-- the sorts of a function's arguments, and of its values
pub record FunSort : Type 0 where
  pub args : List ℕ
  pub result : ℕ

-- what each known name stands for, none for the others
pub record Sorting : Type 0 where
  pub fun : ℕ → Option FunSort
  pub skolem : ℕ → Option FunSort
  pub declared : ℕ → Option (List ℕ)
  pub bound : ℕ → Option (List ℕ)
  pub variable : ℕ → Option ℕ

-- with one more variable
abbrev pub over_var : Sorting → ℕ → ℕ → Sorting
over_var e x s = record e { variable = changed e.variable x (Some s) }

-- with one more bound predicate
abbrev pub over_bound : Sorting → ℕ → List ℕ → Sorting
over_bound e p sorts = record e { bound = changed e.bound p (Some sorts) }

-- with one more Skolem function
abbrev pub over_skolem : Sorting → ℕ → FunSort → Sorting
over_skolem e f k = record e { skolem = changed e.skolem f (Some k) }

-- the sorts of a symbol
abbrev pub sym_sort : Sorting → Sym → Option FunSort
sym_sort e (Fun n) = e.fun n
sym_sort e (Skolem n) = e.skolem n

-- a known sort, and the given one
abbrev pub is_sort : ℕ → Option ℕ → Bool
is_sort s None = false
is_sort s (Some r) = eqb s r

-- known sorts of arguments, and they pass the test
abbrev pub with_sorts : (List ℕ → Bool) → Option (List ℕ) → Bool
with_sorts p None = false
with_sorts p (Some sorts) = p sorts

-- a known function with values of the sort s, whose arguments' sorts pass the test
abbrev pub with_fun : (List ℕ → Bool) → ℕ → Option FunSort → Bool
with_fun p s None = false
with_fun p s (Some k) = eqb s k.result && p k.args

-- the sort that a term bears
abbrev pub own_sort : Term → ℕ
own_sort (var x) = x.sort
own_sort (App f s ts) = s

abbrev mutual
  -- each variable and each symbol of the term is used as it is known
  pub sorted_term : Sorting → Term → Bool
  sorted_term e (var x) = is_sort x.sort (e.variable x.num)
  sorted_term e (App f s ts) = with_fun (λ sorts. sorted_terms e ts sorts) s (sym_sort e f)

  -- as many terms as sorts, well sorted, each of its sort
  pub sorted_terms : Sorting → Terms → List ℕ → Bool
  sorted_terms e Nil [] = true
  sorted_terms e Nil (s ∷ sorts) = false
  sorted_terms e (Cons' _ (one t end) _ (ones ts ends)) [] = false
  sorted_terms e (Cons' _ (one t end) _ (ones ts ends)) (s ∷ sorts) = sorted_term e t && (eqb (own_sort t) s && sorted_terms e ts sorts)

-- the sorting that knows these sorts of variables
abbrev pub over_vars : Sorting → (ℕ → Option ℕ) → Sorting
over_vars e v = record e { variable = v }
