-- Declarations, each on its line, by their places.
use Rattle.std.proofs.Common.{◌≡◌, ℕ, zero, suc, ◌+◌, ◌++◌, List, [], ◌∷◌, drop, slice_get, refl, ◌∙◌, ap, sym, append_assoc, add-one}
use Rattle.soqe_syntax.specs.Grammar as tree
use Rattle.soqe_signature.specs.Declarations.{Declaration}
use Rattle.soqe_show.specs.Printed.{Text, declared_text, all_declared_text}
use Rattle.soqe_show.specs.Dress.{dress_declared, dress_all_declared, behind_obj}
use Rattle.soqe_show.specs.Lines.{line_at}

all_declared_text-append : (xs ys : List (tree.Declared Text)) → all_declared_text (xs ++ ys) ≡ all_declared_text xs ++ all_declared_text ys
all_declared_text-append [] ys = refl
all_declared_text-append (x ∷ xs) ys =
    ap (λ t. declared_text x ++ t) (all_declared_text-append xs ys) ∙ sym (append_assoc (declared_text x) (all_declared_text xs) (all_declared_text ys))

-- the lines from a place on
abbrev pub lines_from : List Declaration → List Declaration → Text
lines_from ds xs = all_declared_text (dress_all_declared ds xs)

-- the first of them is that of the place
first_line : (ds xs : List Declaration) (i : ℕ) → lines_from ds (drop i xs) ≡ line_at ds (slice_get xs i) ++ lines_from ds (drop (suc i) xs)
first_line ds [] zero = refl
first_line ds [] (suc i) = refl
first_line ds (x ∷ xs) zero = all_declared_text-append (dress_declared ds x) (dress_all_declared ds xs)
first_line ds (x ∷ xs) (suc i) = first_line ds xs i

-- the declaration at a place is written, and those behind it are left
pub one_line : (ds : List Declaration) (before after start : Text) (i : ℕ)
    → after ≡ before ++ line_at ds (slice_get ds i)
    → before ++ lines_from ds (drop i ds) ≡ start
    → after ++ lines_from ds (drop (i + 1) ds) ≡ start
one_line ds before after start i e h =
    rw add-one (ap (λ t. t ++ lines_from ds (drop (suc i) ds)) e
    ∙ append_assoc before (line_at ds (slice_get ds i)) (lines_from ds (drop (suc i) ds))
    ∙ ap (λ t. before ++ t) (sym (first_line ds ds i))
    ∙ h)

-- the declarations behind the first are those from place 1 on
pub behind_first : (ds : List Declaration) → drop 1 ds ≡ behind_obj ds
behind_first [] = refl
behind_first (d ∷ ds) = refl
