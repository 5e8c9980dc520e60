-- A table given as a function is tried as a list.
use Rattle.std.proofs.Common.{◌≡◌, ℕ, Bool, true, false, cond, eqb, map, List, Option, Some, refl, sym, ◌∙◌, subst}
use Rattle.soqe_term.specs.World.{World, with_bound}
use Rattle.soqe_number.specs.Finite.{every_list, some_list, product, entry}
use Rattle.soqe_number.specs.Ranges.{InRange, tabulated}
use Rattle.soqe_term.specs.Sorting.{Sorting, over_bound}
use Rattle.soqe_term.specs.Fits.{Fits, EqualIn, Matches}
use Rattle.soqe_number.proofs.Enumerations.{finds_list, every_list-at, entry-tabulated, length-tabulated}
use Rattle.soqe_term.proofs.Values.{fits-bound}
use Rattle.soqe_form.specs.declared.form.Form.{Form}
use Rattle.soqe_form.specs.Truth.{truth}
use Rattle.soqe_form.specs.Sorted.{sorted}
use Rattle.soqe_form.proofs.Matches.{truth-match}

two_tables : (w : World) (b : Bool) (g h f : List ℕ → Bool) (sorts r args : List ℕ) (o : Option (List ℕ)) → cond b (Some sorts) o ≡ Some r → InRange (map w.size r) args → EqualIn w sorts g h → cond b g f args ≡ cond b h f args
two_tables w true g h f sorts r args o q l k = let e : r ≡ sorts = cc in k args (subst (λ r. InRange (map w.size r) args) e l)
two_tables w false g h f sorts r args o q l k = refl

pub matches-tables : (w : World) (e : Sorting) (m : ℕ) (sorts : List ℕ) (g h : List ℕ → Bool) → EqualIn w sorts g h → Matches (over_bound e m sorts) (with_bound w m g) (with_bound w m h)
matches-tables w e m sorts g h k = record {
  size = refl;
  fun = λ n r q args l. refl;
  skolem = λ n r q args l. refl;
  declared = λ n r q args l. refl;
  bound = λ n r q args l. two_tables w (eqb n m) g h (w.bound n) sorts r args (e.bound n) q l k;
  element = λ n r q. refl;
}

-- tables that agree in range give the same truth
pub truth-tables : (w : World) (e : Sorting) (m : ℕ) (sorts : List ℕ) (g h : List ℕ → Bool) (f : Form) → Fits w e → sorted (over_bound e m sorts) f ≡ true → EqualIn w sorts g h → truth (with_bound w m g) f ≡ truth (with_bound w m h) f
truth-tables w e m sorts g h f i o k =
    truth-match (with_bound w m g) (with_bound w m h) (over_bound e m sorts) f (fits-bound w e m sorts g i) (matches-tables w e m sorts g h k) o

-- the listed table of a function gives the truth that the function gives
pub truth-tabulated : (w : World) (e : Sorting) (m : ℕ) (sorts : List ℕ) (g : List ℕ → Bool) (f : Form) → Fits w e → sorted (over_bound e m sorts) f ≡ true
    → truth (with_bound w m (entry (map w.size sorts) (tabulated (map w.size sorts) g))) f ≡ truth (with_bound w m g) f
truth-tabulated w e m sorts g f i o =
    truth-tables w e m sorts (entry (map w.size sorts) (tabulated (map w.size sorts) g)) g f i o (λ args l. entry-tabulated (map w.size sorts) args g l)

-- a formula that is true with a table given as a function is true with a listed one
pub some-table : (w : World) (e : Sorting) (m : ℕ) (sorts : List ℕ) (g : List ℕ → Bool) (f : Form) → Fits w e → sorted (over_bound e m sorts) f ≡ true
    → truth (with_bound w m g) f ≡ true
    → some_list (product (map w.size sorts)) (λ t. truth (with_bound w m (entry (map w.size sorts) t)) f) ≡ true
some-table w e m sorts g f i o h =
    finds_list (product (map w.size sorts)) (λ t. truth (with_bound w m (entry (map w.size sorts) t)) f) (tabulated (map w.size sorts) g)
    (length-tabulated (map w.size sorts) g) (truth-tabulated w e m sorts g f i o ∙ h)

-- a formula that is true with every listed table is true with every table given as a function
pub every-table : (w : World) (e : Sorting) (m : ℕ) (sorts : List ℕ) (g : List ℕ → Bool) (f : Form) → Fits w e → sorted (over_bound e m sorts) f ≡ true
    → every_list (product (map w.size sorts)) (λ t. truth (with_bound w m (entry (map w.size sorts) t)) f) ≡ true
    → truth (with_bound w m g) f ≡ true
every-table w e m sorts g f i o h =
    sym (truth-tabulated w e m sorts g f i o)
    ∙ every_list-at (product (map w.size sorts)) (λ t. truth (with_bound w m (entry (map w.size sorts) t)) f) h (tabulated (map w.size sorts) g)
    (length-tabulated (map w.size sorts) g)
