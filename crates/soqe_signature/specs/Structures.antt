-- Finite structures and settings: lists of numbers and of truth values, and the world that they give.
use Rattle.std.specs.Prelude.{◌≡◌, ℕ, ◌<◌, Bool, cond, eqb, List, [], ◌∷◌, length, map, Option, Some, None, slice_index_or}
use Rattle.std.specs.List.{All}
use Rattle.soqe_signature.specs.declared.kinds.NameKind.TheVariants as numbering
use Rattle.soqe_term.specs.World.{World}
use Rattle.soqe_number.specs.Finite.{product, entry, value_entry}
use Rattle.soqe_term.specs.Sorting.{FunSort}
use Rattle.soqe_signature.specs.Declarations.{Declaration, count_of, fun_sort_of, pred_sorts_of, free_sort_of}

-- The size of each sort, the list of values of each function, and the list of truth values of each predicate, all by
-- number. The entry for arguments stands at their mixed-radix number, the first argument weighing most.
pub record Structure : Type 0 where
  pub sizes : List ℕ
  pub funs : List (List ℕ)
  pub preds : List (List Bool)

-- the table of a bound predicate, with its argument sorts
pub record BoundTable : Type 0 where
  pub args : List ℕ
  pub entries : List Bool

-- the table of a Skolem function, with its argument sorts
pub record SkolemTable : Type 0 where
  pub args : List ℕ
  pub entries : List ℕ

-- Elements of variables, tables of bound predicates and tables of Skolem functions, each with its number. Of several
-- with one number the first counts.
pub record Setting : Type 0 where
  pub elements : List (ℕ × ℕ)
  pub bounds : List (ℕ × BoundTable)
  pub skolems : List (ℕ × SkolemTable)

-- the first item with the number, or d
abbrev pub item_of : {A : Type 0} → A → List (ℕ × A) → ℕ → A
item_of d [] n = d
item_of d (e ∷ more) n = cond (eqb n e.0) e.1 (item_of d more n)

-- the size of a sort; a sort that the structure doesn't have has one element
abbrev pub size_in : Structure → ℕ → ℕ
size_in m s = slice_index_or m.sizes s 1

-- the sizes of sorts
abbrev pub sizes_in : Structure → List ℕ → List ℕ
sizes_in m sorts = map (size_in m) sorts

-- the argument sorts of a function, none where it isn't declared
abbrev pub fun_args : Option FunSort → List ℕ
fun_args None = []
fun_args (Some k) = k.args

-- the argument sorts of a predicate, none where it isn't declared
abbrev pub pred_args : Option (List ℕ) → List ℕ
pred_args None = []
pred_args (Some sorts) = sorts

-- the world of a structure and a setting, for the declarations of a signature
abbrev pub world_of : List Declaration → Structure → Setting → World
world_of ds m s = record {
  size = size_in m;
  fun = λ n. value_entry (sizes_in m (fun_args (fun_sort_of ds n))) (slice_index_or m.funs n []);
  skolem = λ n. let t : SkolemTable = item_of (record { args = []; entries = [] }) s.skolems n in value_entry (sizes_in m t.args) t.entries;
  declared = λ n. entry (sizes_in m (pred_args (pred_sorts_of ds n))) (slice_index_or m.preds n []);
  bound = λ n. let t : BoundTable = item_of (record { args = []; entries = [] }) s.bounds n in entry (sizes_in m t.args) t.entries;
  element = item_of 0 s.elements;
}

-- The structure has a size of at least 1 for each sort, and for each function and predicate a list of the right length
-- whose values are in range.
pub record IsStructureFor (ds : List Declaration) (m : Structure) : Type 0 where
  pub sorts : length m.sizes ≡ count_of numbering.Sort ds
  pub inhabited : All (λ n. 0 < n) m.sizes
  pub funs : length m.funs ≡ count_of numbering.Fun ds
  pub values : (n : ℕ) (k : FunSort) → fun_sort_of ds n ≡ Some k
      → (length (slice_index_or m.funs n []) ≡ product (sizes_in m k.args)) × All (λ a. a < size_in m k.result) (slice_index_or m.funs n [])
  pub preds : length m.preds ≡ count_of numbering.Pred ds
  pub tables : (n : ℕ) (sorts : List ℕ) → pred_sorts_of ds n ≡ Some sorts
      → length (slice_index_or m.preds n []) ≡ product (sizes_in m sorts)

-- each declared variable has an element of its sort
abbrev pub IsSettingFor : List Declaration → Structure → Setting → Type 0
IsSettingFor ds m s = (n sort : ℕ) → free_sort_of ds n ≡ Some sort → item_of 0 s.elements n < size_in m sort
