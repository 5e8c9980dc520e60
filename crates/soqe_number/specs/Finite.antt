-- Trying every element of a sort, and every table of truth values.
use Rattle.std.specs.Prelude.{ℕ, zero, suc, ◌+◌, ◌*◌, Bool, true, false, ◌&&◌, ◌||◌, List, [], ◌∷◌, slice_index_or}

-- a test holds at every number below n
abbrev pub every : ℕ → (ℕ → Bool) → Bool
every zero p = true
every (suc n) p = every n p && p n

-- a test holds at some number below n
abbrev pub some : ℕ → (ℕ → Bool) → Bool
some zero p = false
some (suc n) p = some n p || p n

-- a test holds at every list of n truth values
abbrev pub every_list : ℕ → (List Bool → Bool) → Bool
every_list zero p = p []
every_list (suc n) p = every_list n (λ t. p (true ∷ t)) && every_list n (λ t. p (false ∷ t))

-- a test holds at some list of n truth values
abbrev pub some_list : ℕ → (List Bool → Bool) → Bool
some_list zero p = p []
some_list (suc n) p = some_list n (λ t. p (true ∷ t)) || some_list n (λ t. p (false ∷ t))

-- how many lists of arguments there are, by the sizes of their sorts
abbrev pub product : List ℕ → ℕ
product [] = 1
product (n ∷ ns) = n * product ns

-- the mixed-radix number of a list of arguments, the first weighing most
abbrev pub place : List ℕ → List ℕ → ℕ
place [] _ = 0
place (n ∷ ns) [] = 0
place (n ∷ ns) (a ∷ more) = a * product ns + place ns more

-- the entry of a table of truth values, false past its end
abbrev pub entry : List ℕ → List Bool → List ℕ → Bool
entry sizes table args = slice_index_or table (place sizes args) false

-- the entry of a table of elements, 0 past its end
abbrev pub value_entry : List ℕ → List ℕ → List ℕ → ℕ
value_entry sizes table args = slice_index_or table (place sizes args) 0
