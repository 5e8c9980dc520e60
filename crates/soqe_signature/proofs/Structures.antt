-- The world of a finite structure and a setting fits what the signature says.
use Rattle.std.proofs.Common.{◌≡◌, ℕ, ◌<◌, ⊎_elim, List, [], Some, None, length, sym, subst, arith}
use Rattle.std.specs.Prelude.{slice_index_or}
use Rattle.std.specs.List.{All}
use Rattle.std.proofs.lemmas.Bool.{cases_lt}
use Rattle.std.proofs.lemmas.List.{get_or_past}
use Rattle.std.proofs.lemmas.List.Elements.{All-get_or}
use Rattle.soqe_number.specs.Finite.{product, place, value_entry}
use Rattle.soqe_number.specs.Ranges.{InRange}
use Rattle.soqe_term.specs.Sorting.{FunSort}
use Rattle.soqe_term.specs.Fits.{StaysIn, Fits}
use Rattle.soqe_signature.specs.Declarations.{Declaration, fun_sort_of, sorting_of}
use Rattle.soqe_signature.specs.Structures.{Structure, Setting, size_in, sizes_in, fun_args, world_of, IsStructureFor, IsSettingFor}
use Rattle.soqe_number.proofs.Enumerations.{place-below}

-- no sort is empty
pub size-positive : (ds : List Declaration) (m : Structure) → IsStructureFor ds m → (s : ℕ) → 0 < size_in m s
size-positive ds m h s = ⊎_elim
    (λ l. All-get_or (λ n. 0 < n) m.sizes s 1 l h.inhabited)
    (λ l. subst (λ n. 0 < n) (sym (get_or_past m.sizes s 1 l)) (omega arith))
    (cases_lt s (length m.sizes))

-- an entry of a table of the right length whose values are in range
pub entry-below : (n : ℕ) (sizes table args : List ℕ) → length table ≡ product sizes → All (λ a. a < n) table → InRange sizes args → value_entry sizes table args < n
entry-below n sizes table args l h r =
    All-get_or (λ a. a < n) table (place sizes args) 0 (let p = place-below sizes args r in omega (arith, p)) h

fun-stays : (ds : List Declaration) (m : Structure) (s : Setting) → IsStructureFor ds m → (n : ℕ) (k : FunSort) → fun_sort_of ds n ≡ Some k → StaysIn (world_of ds m s) k ((world_of ds m s).fun n)
fun-stays ds m s h n k e args r =
    let v = h.values n k e in
    subst (λ o. value_entry (sizes_in m (fun_args o)) (slice_index_or m.funs n []) args < size_in m k.result) (sym e)
    (entry-below (size_in m k.result) (sizes_in m k.args) (slice_index_or m.funs n []) args v.0 v.1 r)

pub fits-world : (ds : List Declaration) (m : Structure) (s : Setting) → IsStructureFor ds m → IsSettingFor ds m s → Fits (world_of ds m s) (sorting_of ds)
fits-world ds m s h k = record {
  size = size-positive ds m h;
  fun = fun-stays ds m s h;
  skolem = λ n k e. let e : None ≡ Some k = e in cc;
  element = k;
}
