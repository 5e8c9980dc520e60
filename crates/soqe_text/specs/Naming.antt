-- Which names of a text are refused: the first one, in the order of the text, and else what the text declares and binds.
-- The declarations are threaded through the text; a new name of a binder joins them as a name of a variable or predicate.
use Rattle.std.specs.Prelude.{ℕ, Bool, true, false, cond, not, eqb, List, [], ◌∷◌, map, find, Option, Some, None, Result, Ok, Err}
use Rattle.std.specs.List.{list_any}
use Rattle.std.specs.Option.{option_or}
use Rattle.soqe_syntax.specs.declared.piece.Span.{Span}
use Rattle.soqe_syntax.specs.Grammar as syntax
use Rattle.soqe_syntax.specs.Pieces.{text_at}
use Rattle.soqe_signature.specs.declared.kinds.Kind.{Kind}
use Rattle.soqe_signature.specs.declared.kinds.Kind.TheVariants as kind
use Rattle.soqe_signature.specs.Declarations.{Declaration, Found, lookup, count_of, numbering_of}
use Rattle.soqe_text.specs.declared.entering.Place.{Place}
use Rattle.soqe_text.specs.declared.entering.Place.TheVariants as place
use Rattle.soqe_text.specs.NewNames.{is_new, with_declared, Entered, first_declared}

-- a value, unless a name was refused
abbrev pub unless_refused : {A : Type 0} → Option ℕ → A → Result A ℕ
unless_refused None a = Ok a
unless_refused (Some at) a = Err at

-- what follows where no name was refused before
abbrev pub then_named : {A B : Type 0} → Result A ℕ → (A → Result B ℕ) → Result B ℕ
then_named (Ok a) k = k a
then_named (Err at) k = Err at

-- A name may be used where the variables and predicates with these numbers are bound: it is declared, or bound round its
-- place. A tagged name is never declared.
abbrev pub is_usable : List ℕ → List ℕ → Option Found → Bool
is_usable vs ps None = false
is_usable vs ps (Some f) = elim f.kind [ kind.VarName ↦ list_any (λ n. eqb n f.num) vs | kind.PredName ↦ list_any (λ n. eqb n f.num) ps | _ ↦ true ]

-- a name is used where it stands for nothing
abbrev pub is_unknown_by : List ℕ → (List ℕ → Option Found) → List ℕ → List ℕ → Span → Bool
is_unknown_by bytes look vs ps x = not (is_usable vs ps (look (text_at bytes x)))

-- a name is used where it stands for nothing
abbrev pub is_unknown : List ℕ → List Declaration → List ℕ → List ℕ → Span → Bool
is_unknown bytes ds = is_unknown_by bytes (lookup ds)

-- where a name begins
abbrev pub start_of : Option Span → Option ℕ
start_of None = None
start_of (Some x) = Some x.start

-- the first of some names that is unknown
abbrev pub unknown_of_by : List ℕ → (List ℕ → Option Found) → List ℕ → List ℕ → List Span → Option ℕ
unknown_of_by bytes look vs ps xs = start_of (find (λ x. is_unknown_by bytes look vs ps x) xs)

-- the first of some names that is unknown
abbrev pub unknown_of : List ℕ → List Declaration → List ℕ → List ℕ → List Span → Option ℕ
unknown_of bytes ds = unknown_of_by bytes (lookup ds)

-- a name, if it is unknown
abbrev pub unknown_name_by : List ℕ → (List ℕ → Option Found) → List ℕ → List ℕ → Span → Option ℕ
unknown_name_by bytes look vs ps x = cond (is_unknown_by bytes look vs ps x) (Some x.start) None

-- a name, if it is unknown
abbrev pub unknown_name : List ℕ → List Declaration → List ℕ → List ℕ → Span → Option ℕ
unknown_name bytes ds = unknown_name_by bytes (lookup ds)

abbrev mutual
  -- the first unknown name of a term
  pub unknown_in_by : List ℕ → (List ℕ → Option Found) → List ℕ → List ℕ → syntax.Term Span → Option ℕ
  unknown_in_by bytes look vs ps (syntax.Plain x) = unknown_name_by bytes look vs ps x
  unknown_in_by bytes look vs ps (syntax.Applied x ts) = option_or (unknown_name_by bytes look vs ps x) (unknown_in_all_by bytes look vs ps ts)

  -- the first unknown name of terms
  pub unknown_in_all_by : List ℕ → (List ℕ → Option Found) → List ℕ → List ℕ → syntax.Terms Span → Option ℕ
  unknown_in_all_by bytes look vs ps (syntax.One t) = unknown_in_by bytes look vs ps t
  unknown_in_all_by bytes look vs ps (syntax.More ts t) = option_or (unknown_in_all_by bytes look vs ps ts) (unknown_in_by bytes look vs ps t)

-- the first unknown name of a term
abbrev pub unknown_in : List ℕ → List Declaration → List ℕ → List ℕ → syntax.Term Span → Option ℕ
unknown_in bytes ds = unknown_in_by bytes (lookup ds)

-- the first unknown name of terms
abbrev pub unknown_in_all : List ℕ → List Declaration → List ℕ → List ℕ → syntax.Terms Span → Option ℕ
unknown_in_all bytes ds = unknown_in_all_by bytes (lookup ds)

-- what stands for a name at a binder of a variable: a declared free variable, or a name that was bound before, keeps its number
abbrev pub variable_place : Option Found → Place
variable_place None = place.New
variable_place (Some f) = elim f.kind [ kind.VarName ↦ place.Old f.num | kind.Free sort ↦ place.Old f.num | _ ↦ place.Taken ]

-- what stands for a name at a binder of a predicate: a name that was bound before keeps its number
abbrev pub predicate_place : Option Found → Place
predicate_place None = place.New
predicate_place (Some f) = elim f.kind [ kind.PredName ↦ place.Old f.num | _ ↦ place.Taken ]

-- a name at its binder, with its number: a new name, which has to be ordinary, gets the next one
abbrev pub entered_at : List Declaration → List ℕ → Kind → Place → Option Entered
entered_at ds name k place.New = cond (is_new ds name) (Some (record { num = count_of (numbering_of k) ds; declared = with_declared ds name k })) None
entered_at ds name k (place.Old n) = Some (record { num = n; declared = ds })
entered_at ds name k place.Taken = None

-- a variable at its binder
abbrev pub variable_entered : List Declaration → List ℕ → Option Entered
variable_entered ds name = entered_at ds name kind.VarName (variable_place (lookup ds name))

-- a predicate at its binder
abbrev pub predicate_entered : List Declaration → List ℕ → Option Entered
predicate_entered ds name = entered_at ds name kind.PredName (predicate_place (lookup ds name))

-- a name that is entered, or refused
abbrev pub or_refused : Option Entered → ℕ → Result Entered ℕ
or_refused None at = Err at
or_refused (Some e) at = Ok e

-- the sort of a binder, if one is written that is unknown
abbrev pub unknown_sort_by : List ℕ → (List ℕ → Option Found) → List ℕ → List ℕ → Option Span → Option ℕ
unknown_sort_by bytes look vs ps None = None
unknown_sort_by bytes look vs ps (Some s) = unknown_name_by bytes look vs ps s

-- the sort of a binder, if one is written that is unknown
abbrev pub unknown_sort : List ℕ → List Declaration → List ℕ → List ℕ → Option Span → Option ℕ
unknown_sort bytes ds = unknown_sort_by bytes (lookup ds)

-- a variable that is bound with its sort, or the first refused name of its binder
abbrev pub variable_bound : List ℕ → List Declaration → List ℕ → List ℕ → Span → Option Span → Result Entered ℕ
variable_bound bytes ds vs ps x s =
    then_named (or_refused (variable_entered ds (text_at bytes x)) x.start) (λ e. unless_refused (unknown_sort bytes e.declared vs ps s) e)

-- a predicate that is bound with its argument sorts, or the first refused name of its binder
abbrev pub predicate_bound : List ℕ → List Declaration → List ℕ → List ℕ → Span → List Span → Result Entered ℕ
predicate_bound bytes ds vs ps p ss =
    then_named (or_refused (predicate_entered ds (text_at bytes p)) p.start) (λ e. unless_refused (unknown_of bytes e.declared vs ps ss) e)

-- the declarations and names behind a formula, or its first refused name
abbrev pub named : List ℕ → List Declaration → List ℕ → List ℕ → syntax.Tree Span → Result (List Declaration) ℕ
named bytes ds vs ps (syntax.Constant b) = Ok ds
named bytes ds vs ps (syntax.Atom t) = unless_refused (unknown_in bytes ds vs ps t) ds
named bytes ds vs ps (syntax.Equation b at l r) = unless_refused (option_or (unknown_in bytes ds vs ps l) (unknown_in bytes ds vs ps r)) ds
named bytes ds vs ps (syntax.Not a) = named bytes ds vs ps a
named bytes ds vs ps (syntax.Bind q x s a) = then_named (variable_bound bytes ds vs ps x s) (λ e. named bytes e.declared (e.num ∷ vs) ps a)
named bytes ds vs ps (syntax.Bind2 q p ss a) = then_named (predicate_bound bytes ds vs ps p ss) (λ e. named bytes e.declared vs (e.num ∷ ps) a)
named bytes ds vs ps (syntax.Binary op l r) = then_named (named bytes ds vs ps l) (λ ds. named bytes ds vs ps r)
named bytes ds vs ps (syntax.Paren a) = named bytes ds vs ps a

-- the number of a sort; a name that is no sort counts as `obj`, and is refused elsewhere
abbrev pub sort_of_found : Option Found → ℕ
sort_of_found None = 0
sort_of_found (Some f) = elim f.kind [ kind.Sort ↦ f.num | _ ↦ 0 ]

-- the number of a sort by its name
abbrev pub sort_number_by : List ℕ → (List ℕ → Option Found) → Span → ℕ
sort_number_by bytes look s = sort_of_found (look (text_at bytes s))

-- the number of a sort by its name
abbrev pub sort_number : List ℕ → List Declaration → Span → ℕ
sort_number bytes ds = sort_number_by bytes (lookup ds)

-- the numbers of sorts by their names
abbrev pub sort_numbers_by : List ℕ → (List ℕ → Option Found) → List Span → List ℕ
sort_numbers_by bytes look ss = map (λ s. sort_number_by bytes look s) ss

-- the numbers of sorts by their names
abbrev pub sort_numbers : List ℕ → List Declaration → List Span → List ℕ
sort_numbers bytes ds = sort_numbers_by bytes (lookup ds)

-- the name that a declaration declares
abbrev pub name_declared : syntax.Declared Span → Span
name_declared (syntax.DeclaredSort s) = s
name_declared (syntax.DeclaredFun f ss r) = f
name_declared (syntax.DeclaredPred p ss) = p
name_declared (syntax.DeclaredVar x s) = x

-- the first unknown sort of a declaration
abbrev pub unknown_in_declared : List ℕ → List Declaration → syntax.Declared Span → Option ℕ
unknown_in_declared bytes ds (syntax.DeclaredSort s) = None
unknown_in_declared bytes ds (syntax.DeclaredFun f ss r) = option_or (unknown_of bytes ds [] [] ss) (unknown_name bytes ds [] [] r)
unknown_in_declared bytes ds (syntax.DeclaredPred p ss) = unknown_of bytes ds [] [] ss
unknown_in_declared bytes ds (syntax.DeclaredVar x s) = unknown_name bytes ds [] [] s

-- what a declared name stands for
abbrev pub kind_declared : List ℕ → List Declaration → syntax.Declared Span → Kind
kind_declared bytes ds (syntax.DeclaredSort s) = kind.Sort
kind_declared bytes ds (syntax.DeclaredFun f ss r) = kind.Fun (sort_numbers bytes ds ss) (sort_number bytes ds r)
kind_declared bytes ds (syntax.DeclaredPred p ss) = kind.Pred (sort_numbers bytes ds ss)
kind_declared bytes ds (syntax.DeclaredVar x s) = kind.Free (sort_number bytes ds s)

-- the declarations with one more, or the first refused name: one that is there or is tagged, or an unknown sort. A
-- declaration does not know the name that it declares.
abbrev pub named_declared : List ℕ → List Declaration → syntax.Declared Span → Result (List Declaration) ℕ
named_declared bytes ds d =
    cond (is_new ds (text_at bytes (name_declared d)))
    (unless_refused (unknown_in_declared bytes ds d) (with_declared ds (text_at bytes (name_declared d)) (kind_declared bytes ds d)))
    (Err (name_declared d).start)

-- one declaration after another
abbrev pub all_named_declared : List ℕ → List Declaration → List (syntax.Declared Span) → Result (List Declaration) ℕ
all_named_declared bytes ds [] = Ok ds
all_named_declared bytes ds (d ∷ more) = then_named (named_declared bytes ds d) (λ ds. all_named_declared bytes ds more)

-- all declarations and names of a problem, in the order of the text, or its first refused name
abbrev pub named_problem : List ℕ → syntax.Problem Span → Result (List Declaration) ℕ
named_problem bytes p = then_named (all_named_declared bytes first_declared p.declared) (λ ds. named bytes ds [] [] p.goal)
