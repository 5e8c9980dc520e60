-- Which texts are ordinary names.
use Rattle.std.specs.Prelude.{ℕ, Bool, false, not, ◌&&◌, ◌||◌, ◌==◌, List, [], ◌∷◌, codes}
use Rattle.std.specs.List.{list_all, list_any}
use Rattle.std.specs.Char.{is_ascii_digit, is_ascii_alphabetic}
use Rattle.std.specs.Str.{bytes_eq}

-- letters, digits and the underscore
abbrev pub is_word : ℕ → Bool
is_word b = is_ascii_alphabetic b || is_ascii_digit b || b == 95

-- the words that are no names
abbrev pub keywords : List (List ℕ)
keywords =
    codes "true" ∷ codes "false" ∷ codes "all" ∷ codes "ex" ∷ codes "all2" ∷ codes "ex2" ∷ codes "lfp" ∷ codes "sort" ∷ codes "fun" ∷ codes "pred" ∷ codes "var"
    ∷ codes "goal" ∷ codes "rel" ∷ codes "prop" ∷ codes "nom" ∷ codes "axiom" ∷ codes "theory" ∷ codes "minimize" ∷ codes "vary" ∷ codes "level" ∷ []

unfoldable pub is_keyword : List ℕ → Bool
is_keyword text = list_any (bytes_eq text) keywords

-- a letter, then letters, digits and underscores, and no keyword
abbrev pub is_ordinary : List ℕ → Bool
is_ordinary [] = false
is_ordinary (b ∷ bs) = is_ascii_alphabetic b && list_all is_word bs && not (is_keyword (b ∷ bs))
