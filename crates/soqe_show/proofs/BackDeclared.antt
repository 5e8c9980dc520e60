-- Declarations of texts are used rightly as those over places are; those that are printed are those that were read.
use Rattle.std.proofs.Common.{◌≡◌, ℕ, Bool, true, ◌&&◌, List, [], ◌∷◌, ◌++◌, map, Option, Some, None, is_none, refl, ◌∙◌, ap, sym, append-nil, true≢false}
use Rattle.std.specs.List.{list_all}
use Rattle.soqe_name.specs.Names.{is_keyword}
use Rattle.soqe_syntax.specs.declared.piece.Span.{Span}
use Rattle.soqe_syntax.specs.Grammar.{Tree, Declared, DeclaredSort, DeclaredFun, DeclaredPred, DeclaredVar}
use Rattle.soqe_number.proofs.Choices.{and_first, and_second}
use Rattle.soqe_signature.specs.Declarations.{Declaration, Found, lookup}
use Rattle.soqe_text.specs.Meanings.{problem_names}
use Rattle.soqe_text.specs.NewNames.{first_declared}
use Rattle.soqe_text.specs.Naming.{is_usable, sort_of_found}
use Rattle.soqe_text.specs.Uses.{no_sort_in, no_sort, wrong_in_one, wrong_in_declared}
use Rattle.soqe_show.specs.Printed.{Text}
use Rattle.soqe_show.specs.Placed.{texts_declared}
use Rattle.soqe_show.specs.Dress.{sort_name, dress_declared, dress_all_declared, behind_obj}
use Rattle.soqe_show.proofs.BackKnown.{number_of, is_known, none_or}
use Rattle.soqe_show.proofs.BackNames.{name_of_declared, kind_of_declared, known_declared, Named, NamedDeclared, AllNamedDeclared}
use Rattle.soqe_show.proofs.BackUses.{is_sort, sorts_is, one_sort_is}
use Rattle.soqe_show.proofs.BackLookups.{Grows, Adds, adds_none, adds_both, adds_ordinary, are_ordinary, named_adds, named_grows, declared_grows, all_declared_grows, new_unknown}
use Rattle.soqe_show.proofs.BackDressed.{sort_named}

-- each sort of a declaration is one
abbrev pub right_one : List Declaration → Declared Text → Bool
right_one ds (DeclaredSort s) = true
right_one ds (DeclaredFun f ss r) = list_all (is_sort ds) ss && is_sort ds r
right_one ds (DeclaredPred p ss) = list_all (is_sort ds) ss
right_one ds (DeclaredVar x s) = is_sort ds s

one_is : (bytes : List ℕ) (ds : List Declaration) (d : Declared Span) → is_none (wrong_in_one bytes ds d) ≡ right_one ds (texts_declared bytes d)
one_is bytes ds (DeclaredSort s) = refl
one_is bytes ds (DeclaredFun f ss r) =
    none_or (no_sort_in bytes ds ss) (no_sort bytes ds r) ∙ (λ i. sorts_is bytes (problem_names ds) ss i && one_sort_is bytes (problem_names ds) r i)
one_is bytes ds (DeclaredPred p ss) = sorts_is bytes (problem_names ds) ss
one_is bytes ds (DeclaredVar x s) = one_sort_is bytes (problem_names ds) s

-- declarations are used rightly as their texts are
pub declared_is : (bytes : List ℕ) (ds : List Declaration) (all : List (Declared Span))
    → is_none (wrong_in_declared bytes ds all) ≡ list_all (right_one ds) (map (texts_declared bytes) all)
declared_is bytes ds [] = refl
declared_is bytes ds (d ∷ more) =
    none_or (wrong_in_one bytes ds d) (wrong_in_declared bytes ds more) ∙ (λ i. one_is bytes ds d i && declared_is bytes ds more i)

-- a sort that is known has one number in earlier and later declarations
number_kept : (ds fs : List Declaration) (s : Text) → Grows ds fs → is_known ds [] [] s ≡ true → number_of ds s ≡ number_of fs s
number_kept ds fs s grows known = by (lookup ds s) refl known
  where
    by : (found : Option Found) → lookup ds s ≡ found → is_usable [] [] found ≡ true → sort_of_found found ≡ number_of fs s
    by None e known = absurd (true≢false (sym known))
    by (Some f) e known = ap sort_of_found (sym (grows s f e))

-- so its number leads to its name
sort_there : (ds fs : List Declaration) (s : Text) → Grows ds fs → is_known ds [] [] s ≡ true → is_sort fs s ≡ true → sort_name fs (number_of ds s) ≡ s
sort_there ds fs s grows known right = ap (sort_name fs) (number_kept ds fs s grows known) ∙ sort_named fs s right

sorts_there : (ds fs : List Declaration) (ss : List Text) → Grows ds fs → list_all (is_known ds [] []) ss ≡ true → list_all (is_sort fs) ss ≡ true
    → map (sort_name fs) (map (number_of ds) ss) ≡ ss
sorts_there ds fs [] grows known right = refl
sorts_there ds fs (s ∷ ss) grows known right =
    let first = sort_there ds fs s grows (and_first (is_known ds [] [] s) _ known) (and_first (is_sort fs s) _ right) in
    let rest = sorts_there ds fs ss grows (and_second (is_known ds [] [] s) _ known) (and_second (is_sort fs s) _ right) in
    (λ i. first i ∷ rest i)

declaration_back : (ds fs : List Declaration) (d : Declared Text) → Grows ds fs → known_declared ds d ≡ true → right_one fs d ≡ true
    → dress_declared fs (record { name = name_of_declared d; kind = kind_of_declared ds d }) ≡ d ∷ []
declaration_back ds fs (DeclaredSort s) grows known right = refl
declaration_back ds fs (DeclaredFun f ss r) grows known right =
    let args = sorts_there ds fs ss grows (and_first (list_all (is_known ds [] []) ss) _ known) (and_first (list_all (is_sort fs) ss) _ right) in
    let result = sort_there ds fs r grows (and_second (list_all (is_known ds [] []) ss) _ known) (and_second (list_all (is_sort fs) ss) _ right) in
    (λ i. DeclaredFun f (args i) (result i) ∷ [])
declaration_back ds fs (DeclaredPred p ss) grows known right = ap (λ ss. DeclaredPred p ss ∷ []) (sorts_there ds fs ss grows known right)
declaration_back ds fs (DeclaredVar x s) grows known right = ap (λ s. DeclaredVar x s ∷ []) (sort_there ds fs s grows known right)

declared_adds : (ds fs : List Declaration) (d : Declared Text) (new : List Declaration) → NamedDeclared ds d new → Grows ds fs → right_one fs d ≡ true → Adds fs ds new (d ∷ [])
declared_adds ds fs d new h grows right = record {
  more = record { name = name_of_declared d; kind = kind_of_declared ds d } ∷ [];
  is = sym h.is;
  dressed = ap (λ l. l ++ []) (declaration_back ds fs d grows h.known right);
  ordinary = (λ i. (new_unknown ds (name_of_declared d) h.is_new).1 i && true);
}

all_declared_adds : (ds fs : List Declaration) (all : List (Declared Text)) (new : List Declaration) → AllNamedDeclared ds all new → Grows new fs → list_all (right_one fs) all ≡ true
    → Adds fs ds new all
all_declared_adds ds fs [] new h grows right = adds_none fs ds new h
all_declared_adds ds fs (d ∷ more) new h grows right =
    let later : Grows h.0 fs = λ name f k. grows name f (all_declared_grows h.0 more new h.2 name f k) in
    adds_both fs ds h.0 new (d ∷ []) more
    (declared_adds ds fs d h.0 h.1 (λ name f k. later name f (declared_grows ds d h.0 h.1 name f k)) (and_first (right_one fs d) _ right))
    (all_declared_adds h.0 fs more new h.2 grows (and_second (right_one fs d) _ right))

-- A problem's names are known, and its declarations are used rightly.
pub record IsKnown (ds : List Declaration) (all : List (Declared Text)) (goal : Tree Text) : Type 0 where
  pub before : List Declaration
  pub declared : AllNamedDeclared first_declared all before
  pub named : Named before [] [] goal ds
  pub right : list_all (right_one ds) all ≡ true

-- behind all names of a problem its declarations are known, and they are printed as they were read
pub problem_adds : (ds : List Declaration) (all : List (Declared Text)) (goal : Tree Text) → IsKnown ds all goal → Adds ds first_declared ds (all ++ [])
problem_adds ds all goal h =
    adds_both ds first_declared h.before ds all []
    (all_declared_adds first_declared ds all h.before h.declared (named_grows h.before [] [] goal ds h.named) h.right)
    (named_adds ds h.before [] [] goal ds h.named)

pub declared_back : (ds : List Declaration) (all : List (Declared Text)) (goal : Tree Text) → IsKnown ds all goal → dress_all_declared ds (behind_obj ds) ≡ all
declared_back ds all goal h =
    let a = problem_adds ds all goal h in
    ap (λ l. dress_all_declared ds (behind_obj l)) a.is ∙ a.dressed ∙ append-nil all

obj_ordinary : are_ordinary first_declared ≡ true
unfolding is_keyword
obj_ordinary = refl

-- all names are ordinary
pub problem_ordinary : (ds : List Declaration) (all : List (Declared Text)) (goal : Tree Text) → IsKnown ds all goal → are_ordinary ds ≡ true
problem_ordinary ds all goal h = adds_ordinary ds first_declared ds (all ++ []) (problem_adds ds all goal h) obj_ordinary
