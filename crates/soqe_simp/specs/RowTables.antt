-- Names of rows, each at its place in a list. The code of a row is the place of its name, from 0.
use Rattle.std.specs.Prelude.{ℕ, Bool, true, not, ◌&&◌, ◌≡◌, codes, List, [], ◌∷◌, map, slice_get, Option, Some}
use Rattle.std.specs.List.{list_any, position}
use Rattle.std.specs.Str.{bytes_eq}
use Rattle.std.specs.Borrow.{Bor}

-- the texts behind the references
abbrev pub texts : List (Bor (List ℕ)) → List (List ℕ)
texts = map (λ n. n.now)

-- no name stands twice
abbrev pub differ : List (List ℕ) → Bool
differ [] = true
differ (n ∷ more) = not (list_any (λ m. bytes_eq m n) more) && differ more

-- the first place of the name, if it stands there
abbrev pub code_of : List ℕ → List (List ℕ) → Option ℕ
code_of name names = position (λ n. bytes_eq n name) names

-- the code of a name leads back to the name
abbrev pub CodesLeadBack : Type 0
CodesLeadBack = (names : List (List ℕ)) (name : List ℕ) (k : ℕ) → code_of name names ≡ Some k → slice_get names k ≡ Some name

-- the name with a code leads back to the code, where no name stands twice
abbrev pub NamesLeadBack : Type 0
NamesLeadBack = (names : List (List ℕ)) (name : List ℕ) (k : ℕ) → differ names ≡ true → slice_get names k ≡ Some name → code_of name names ≡ Some k

-- the names of the rows of the simplifier
abbrev pub row_names : List (List ℕ)
row_names = codes "row1" ∷ codes "row2" ∷ codes "row3" ∷ codes "row4" ∷ codes "row5" ∷ codes "row6" ∷ codes "row7" ∷ codes "row8"
    ∷ codes "row9" ∷ codes "row10" ∷ codes "row11" ∷ codes "row12" ∷ codes "row13" ∷ codes "row14" ∷ codes "row15" ∷ codes "row16"
    ∷ codes "row17" ∷ codes "row18" ∷ codes "row19" ∷ codes "row20" ∷ codes "row21" ∷ codes "row22" ∷ codes "row23" ∷ codes "row24"
    ∷ codes "row25" ∷ codes "row26" ∷ codes "row27" ∷ codes "row28" ∷ codes "row29" ∷ codes "row30" ∷ codes "row31" ∷ codes "row32"
    ∷ codes "row33" ∷ codes "row34" ∷ codes "row35" ∷ codes "row36" ∷ codes "row37" ∷ []
