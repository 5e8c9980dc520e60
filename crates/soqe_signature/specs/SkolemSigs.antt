-- The sorts of Skolem functions, by a table.
use Rattle.std.specs.Prelude.{ℕ, ◌≡◌, true, eqb, cond, List, [], ◌∷◌, Option, Some, None}
use Rattle.soqe_signature.specs.declared.skolems.SkolemSig.{SkolemSig}
use Rattle.soqe_term.specs.declared.term.Term.{Term, Var as var, App}
use Rattle.soqe_term.specs.declared.term.Terms.{Terms, Nil, Cons', end_of-Term as end, more_of-Term as one, end_of-Terms as ends, more_of-Terms as ones}
use Rattle.soqe_term.specs.Sorting.{FunSort, Sorting, over_vars, sorted_term}
use Rattle.soqe_signature.specs.Declarations.{Declaration, sorting_of}

-- the sorts of the Skolem function with a number: those of its first entry
abbrev pub skolem_sort_of : List SkolemSig → ℕ → Option FunSort
skolem_sort_of [] n = None
skolem_sort_of (k ∷ more) n = cond (eqb n k.num) (Some (record { args = k.args; result = k.result })) (skolem_sort_of more n)

-- what the declared names and the Skolem functions stand for
abbrev pub sorting_with : List Declaration → List SkolemSig → Sorting
sorting_with ds ks = record (sorting_of ds) { skolem = skolem_sort_of ks }

-- the one of two that is there, the first if both are
abbrev pub first_of : Option ℕ → Option ℕ → Option ℕ
first_of None o = o
first_of (Some n) o = Some n

abbrev mutual
  -- the sort that the first occurrence of a variable bears
  pub borne_sort : Term → ℕ → Option ℕ
  borne_sort (var x) n = cond (eqb n x.num) (Some x.sort) None
  borne_sort (App f s ts) n = borne_in ts n

  pub borne_in : Terms → ℕ → Option ℕ
  borne_in Nil n = None
  borne_in (Cons' _ (one t end) _ (ones ts ends)) n = first_of (borne_sort t n) (borne_in ts n)

-- A term is well sorted where its variables have some sorts with which it is.
abbrev pub IsWellSorted : Sorting → Term → Type 0
IsWellSorted e t = (v : ℕ → Option ℕ) × (sorted_term (over_vars e v) t ≡ true)
