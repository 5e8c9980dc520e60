-- What a signature stores, as declarations.
use Rattle.std.specs.Prelude.{ℕ, ◌≡◌, ◌<◌, ◌^◌, ◌++◌, List, [], ◌∷◌, length, map, String, string_bytes}
use Rattle.std.specs.declared.alloc.Global.{Global}
use Rattle.soqe_signature.specs.declared.signature.Stored.{Stored}
use Rattle.soqe_signature.specs.Declarations.{Declaration, count_of, numbering_of}
use Rattle.soqe_signature.specs.Places.{PlaceLists, places_of}

abbrev pub declaration : String Global × Stored → Declaration
declaration e = record { name = string_bytes e.0; kind = e.1.kind }

abbrev pub declarations : List (String Global × Stored) → List Declaration
declarations entries = map declaration entries

-- the number of each declaration, behind those that were passed already
abbrev pub numbers_behind : List Declaration → List Declaration → List ℕ
numbers_behind passed [] = []
numbers_behind passed (d ∷ ds) = count_of (numbering_of d.kind) passed ∷ numbers_behind (passed ++ d ∷ []) ds

-- Each name has its number, the places are those of the declarations, and there are few enough of them to be counted.
pub record IsKept (entries : List (String Global × Stored)) (places : PlaceLists) : Type 0 where
  pub numbers : map (λ e. e.1.num) entries ≡ numbers_behind [] (declarations entries)
  pub places_kept : places ≡ places_of (declarations entries)
  pub few : length entries < 2 ^ 32
