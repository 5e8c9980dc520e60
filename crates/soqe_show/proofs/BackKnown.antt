-- Which names of terms and sorts are known, by any look-up; a term over places says what its texts say.
use Rattle.std.proofs.Common.{◌≡◌, ℕ, Bool, true, false, cond, not, ◌&&◌, List, [], ◌∷◌, map, find, Option, Some, None, is_none, refl, ◌∙◌, ap}
use Rattle.std.specs.List.{list_all}
use Rattle.std.specs.Option.{option_or}
use Rattle.soqe_syntax.specs.declared.piece.Span.{Span}
use Rattle.soqe_syntax.specs.Grammar.{Term, Plain, Applied, Terms, One, More}
use Rattle.soqe_syntax.specs.Pieces.{text_at}
use Rattle.soqe_signature.specs.Declarations.{Declaration, Found, lookup}
use Rattle.soqe_text.specs.Naming.{is_usable, start_of, unknown_of_by, unknown_name_by, unknown_in_by, unknown_in_all_by, unknown_sort_by, sort_of_found, sort_number_by, sort_numbers_by}
use Rattle.soqe_show.specs.Printed.{Text}
use Rattle.soqe_show.specs.Placed.{texts_term, texts_terms, texts_sort}

-- a name may be used
abbrev pub is_known_by : (List ℕ → Option Found) → List ℕ → List ℕ → Text → Bool
is_known_by look vs ps x = is_usable vs ps (look x)

abbrev mutual
  -- each name of a term is known
  pub known_in_by : (List ℕ → Option Found) → List ℕ → List ℕ → Term Text → Bool
  known_in_by look vs ps (Plain x) = is_known_by look vs ps x
  known_in_by look vs ps (Applied x ts) = is_known_by look vs ps x && known_in_all_by look vs ps ts

  -- each name of terms is known
  pub known_in_all_by : (List ℕ → Option Found) → List ℕ → List ℕ → Terms Text → Bool
  known_in_all_by look vs ps (One t) = known_in_by look vs ps t
  known_in_all_by look vs ps (More ts t) = known_in_all_by look vs ps ts && known_in_by look vs ps t

-- the sort of a binder is known, where one is written
abbrev pub sort_known_by : (List ℕ → Option Found) → List ℕ → List ℕ → Option Text → Bool
sort_known_by look vs ps None = true
sort_known_by look vs ps (Some s) = is_known_by look vs ps s

-- the number of a sort by its name
abbrev pub number_of_by : (List ℕ → Option Found) → Text → ℕ
number_of_by look s = sort_of_found (look s)

-- ---- the same in a problem, by its declarations and names

-- a name may be used
abbrev pub is_known : List Declaration → List ℕ → List ℕ → Text → Bool
is_known ds = is_known_by (lookup ds)

-- each name of a term is known
abbrev pub known_in : List Declaration → List ℕ → List ℕ → Term Text → Bool
known_in ds = known_in_by (lookup ds)

-- the sort of a binder is known, where one is written
abbrev pub sort_known : List Declaration → List ℕ → List ℕ → Option Text → Bool
sort_known ds = sort_known_by (lookup ds)

-- the number of a sort by its name
abbrev pub number_of : List Declaration → Text → ℕ
number_of ds = number_of_by (lookup ds)

-- ---- laws

pub none_or : (a b : Option ℕ) → is_none (option_or a b) ≡ (is_none a && is_none b)
none_or None b = refl
none_or (Some n) b = refl

pub from_none : (o : Option ℕ) → is_none o ≡ true → o ≡ None
from_none None h = refl
from_none (Some n) h = cc

pub none_unless : (b : Bool) (n : ℕ) → is_none (cond (not b) (Some n) None) ≡ b
none_unless true n = refl
none_unless false n = refl

mutual
  pub known_term : (bytes : List ℕ) (look : List ℕ → Option Found) (vs ps : List ℕ) (t : Term Span) → is_none (unknown_in_by bytes look vs ps t) ≡ known_in_by look vs ps (texts_term bytes t)
  known_term bytes look vs ps (Plain x) = none_unless (is_known_by look vs ps (text_at bytes x)) x.start
  known_term bytes look vs ps (Applied x ts) =
      none_or (unknown_name_by bytes look vs ps x) (unknown_in_all_by bytes look vs ps ts)
      ∙ (λ i. none_unless (is_known_by look vs ps (text_at bytes x)) x.start i && known_terms bytes look vs ps ts i)

  known_terms : (bytes : List ℕ) (look : List ℕ → Option Found) (vs ps : List ℕ) (ts : Terms Span) → is_none (unknown_in_all_by bytes look vs ps ts) ≡ known_in_all_by look vs ps (texts_terms bytes ts)
  known_terms bytes look vs ps (One t) = known_term bytes look vs ps t
  known_terms bytes look vs ps (More ts t) =
      none_or (unknown_in_all_by bytes look vs ps ts) (unknown_in_by bytes look vs ps t)
      ∙ (λ i. known_terms bytes look vs ps ts i && known_term bytes look vs ps t i)

pub known_sides : (bytes : List ℕ) (look : List ℕ → Option Found) (vs ps : List ℕ) (l r : Term Span)
    → is_none (option_or (unknown_in_by bytes look vs ps l) (unknown_in_by bytes look vs ps r)) ≡ (known_in_by look vs ps (texts_term bytes l) && known_in_by look vs ps (texts_term bytes r))
known_sides bytes look vs ps l r =
    none_or (unknown_in_by bytes look vs ps l) (unknown_in_by bytes look vs ps r) ∙ (λ i. known_term bytes look vs ps l i && known_term bytes look vs ps r i)

pub known_names : (bytes : List ℕ) (look : List ℕ → Option Found) (vs ps : List ℕ) (xs : List Span)
    → is_none (unknown_of_by bytes look vs ps xs) ≡ list_all (is_known_by look vs ps) (map (text_at bytes) xs)
known_names bytes look vs ps [] = refl
known_names bytes look vs ps (x ∷ xs) = by (is_known_by look vs ps (text_at bytes x)) (known_names bytes look vs ps xs)
  where
    by : (b : Bool) → is_none (unknown_of_by bytes look vs ps xs) ≡ list_all (is_known_by look vs ps) (map (text_at bytes) xs)
        → is_none (start_of (cond (not b) (Some x) (find (λ x. not (is_known_by look vs ps (text_at bytes x))) xs))) ≡ (b && list_all (is_known_by look vs ps) (map (text_at bytes) xs))
    by true h = h
    by false h = refl

pub known_sort : (bytes : List ℕ) (look : List ℕ → Option Found) (vs ps : List ℕ) (s : Option Span)
    → is_none (unknown_sort_by bytes look vs ps s) ≡ sort_known_by look vs ps (texts_sort bytes s)
known_sort bytes look vs ps None = refl
known_sort bytes look vs ps (Some s) = none_unless (is_known_by look vs ps (text_at bytes s)) s.start

pub numbers_of : (bytes : List ℕ) (look : List ℕ → Option Found) (ss : List Span) → sort_numbers_by bytes look ss ≡ map (number_of_by look) (map (text_at bytes) ss)
numbers_of bytes look [] = refl
numbers_of bytes look (s ∷ ss) = ap (λ ns. sort_number_by bytes look s ∷ ns) (numbers_of bytes look ss)
