-- What a signature says: its declarations in order, and the numbers and sorts that they give to names.
use Rattle.std.specs.Prelude.{ℕ, zero, suc, ◌≡◌, Bool, true, false, cond, List, [], ◌∷◌, ◌++◌, length, filter, Option, Some, None, slice_get, position}
use Rattle.std.specs.Str.{bytes_eq}
use Rattle.soqe_signature.specs.declared.kinds.Kind.{Kind}
use Rattle.soqe_signature.specs.declared.kinds.Kind.TheVariants as kind
use Rattle.soqe_signature.specs.declared.kinds.NameKind.{NameKind}
use Rattle.soqe_signature.specs.declared.kinds.NameKind.TheVariants as numbering
use Rattle.soqe_term.specs.declared.term.Var.{Var}
use Rattle.soqe_term.specs.Sorting.{FunSort, Sorting}

-- a name with what it stands for
pub record Declaration : Type 0 where
  pub name : List ℕ
  pub kind : Kind

-- the numbering that a declaration belongs to; declared variables and names of bound variables share one
abbrev pub numbering_of : Kind → NameKind
numbering_of kind.Sort = numbering.Sort
numbering_of (kind.Fun args result) = numbering.Fun
numbering_of (kind.Pred args) = numbering.Pred
numbering_of (kind.Free sort) = numbering.Variable
numbering_of kind.Rel = numbering.Rel
numbering_of kind.Prop = numbering.Prop
numbering_of kind.VarName = numbering.Variable
numbering_of kind.PredName = numbering.BoundPred

-- two numberings are one
abbrev pub same_numbering : NameKind → NameKind → Bool
same_numbering numbering.Sort numbering.Sort = true
same_numbering numbering.Fun numbering.Fun = true
same_numbering numbering.Pred numbering.Pred = true
same_numbering numbering.Variable numbering.Variable = true
same_numbering numbering.BoundPred numbering.BoundPred = true
same_numbering numbering.Rel numbering.Rel = true
same_numbering numbering.Prop numbering.Prop = true
same_numbering _ _ = false

-- the declarations of one numbering, in order
abbrev pub of_numbering : NameKind → List Declaration → List Declaration
of_numbering k ds = filter (λ d. same_numbering (numbering_of d.kind) k) ds

-- how many names a numbering has
abbrev pub count_of : NameKind → List Declaration → ℕ
count_of k ds = length (of_numbering k ds)

-- what a name stands for, with its number
pub record Found : Type 0 where
  pub kind : Kind
  pub num : ℕ

-- the first declaration of a name, behind those that were passed already
abbrev pub lookup_behind : List Declaration → List Declaration → List ℕ → Option Found
lookup_behind passed [] name = None
lookup_behind passed (d ∷ ds) name =
    cond (bytes_eq d.name name) (Some (record { kind = d.kind; num = count_of (numbering_of d.kind) passed }))
    (lookup_behind (passed ++ d ∷ []) ds name)

-- what the declarations say of a name; its number counts the earlier names of its numbering
abbrev pub lookup : List Declaration → List ℕ → Option Found
lookup ds name = lookup_behind [] ds name

-- the place of a name among the declarations
abbrev pub place_of : List Declaration → List ℕ → Option ℕ
place_of ds name = position (λ d. bytes_eq d.name name) ds

-- the name of a declaration
abbrev pub name_from : Option Declaration → Option (List ℕ)
name_from None = None
name_from (Some d) = Some d.name

-- the name with a number
abbrev pub name_of : List Declaration → NameKind → ℕ → Option (List ℕ)
name_of ds k n = name_from (slice_get (of_numbering k ds) n)

-- the sorts that a declaration gives to a function
abbrev pub fun_sort_from : Option Declaration → Option FunSort
fun_sort_from None = None
fun_sort_from (Some d) = elim d.kind [ kind.Fun args result ↦ Some (record { args = args; result = result }) | _ ↦ None ]

-- the sorts that a declaration gives to a predicate
abbrev pub pred_sorts_from : Option Declaration → Option (List ℕ)
pred_sorts_from None = None
pred_sorts_from (Some d) = elim d.kind [ kind.Pred args ↦ Some args | _ ↦ None ]

-- the sort that a declaration gives to a free variable
abbrev pub free_sort_from : Option Declaration → Option ℕ
free_sort_from None = None
free_sort_from (Some d) = elim d.kind [ kind.Free sort ↦ Some sort | _ ↦ None ]

-- the sorts of the function with a number
abbrev pub fun_sort_of : List Declaration → ℕ → Option FunSort
fun_sort_of ds n = fun_sort_from (slice_get (of_numbering numbering.Fun ds) n)

-- the argument sorts of the predicate with a number
abbrev pub pred_sorts_of : List Declaration → ℕ → Option (List ℕ)
pred_sorts_of ds n = pred_sorts_from (slice_get (of_numbering numbering.Pred ds) n)

-- the sort of the variable with a number, where it is declared free
abbrev pub free_sort_of : List Declaration → ℕ → Option ℕ
free_sort_of ds n = free_sort_from (slice_get (of_numbering numbering.Variable ds) n)

-- what the declared names stand for; nothing else is known
abbrev pub sorting_of : List Declaration → Sorting
sorting_of ds = record {
  fun = fun_sort_of ds;
  skolem = λ n. None;
  declared = pred_sorts_of ds;
  bound = λ n. None;
  variable = free_sort_of ds;
}

-- no name is declared twice
abbrev pub HasDistinctNames : List Declaration → Type 0
HasDistinctNames ds = (i j : ℕ) (d e : Declaration) → slice_get ds i ≡ Some d → slice_get ds j ≡ Some e → d.name ≡ e.name → i ≡ j

-- the variable with a number, where it has a sort
abbrev pub var_at : ℕ → Option ℕ → List Var
var_at n None = []
var_at n (Some sort) = record { num = n; sort = sort } ∷ []

-- the variables below a number that have a sort, in order
abbrev pub vars_below : ℕ → (ℕ → Option ℕ) → List Var
vars_below zero f = []
vars_below (suc n) f = vars_below n f ++ var_at n (f n)

-- the variables that are declared free, in order
abbrev pub free_vars_of : List Declaration → List Var
free_vars_of ds = vars_below (count_of numbering.Variable ds) (free_sort_of ds)
