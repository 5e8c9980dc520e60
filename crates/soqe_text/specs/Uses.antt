-- Which names are used as their declarations and binders do not allow: the offset of the first one, in the order of the text.
-- A place knows the sort of each variable and the argument sorts of each bound predicate that are known there, by their
-- numbers. The definitions whose names end in `_by` look names up in whatever `Names` they are given; those without are
-- theirs for a problem, whose declarations are those of the whole text.
use Rattle.std.specs.Prelude.{ℕ, zero, suc, Bool, true, false, cond, not, eqb, List, [], ◌∷◌, ◌++◌, find, Option, Some, None, get_or}
use Rattle.std.specs.Option.{option_or}
use Rattle.soqe_syntax.specs.declared.piece.Span.{Span}
use Rattle.soqe_syntax.specs.Grammar as syntax
use Rattle.soqe_syntax.specs.Pieces.{text_at}
use Rattle.soqe_signature.specs.declared.kinds.Kind.TheVariants as kind
use Rattle.soqe_signature.specs.declared.kinds.NameKind.TheVariants as numbering
use Rattle.soqe_signature.specs.Declarations.{Declaration, Found, count_of, free_sort_of}
use Rattle.soqe_text.specs.Meanings.{Names, problem_names}
use Rattle.soqe_text.specs.Naming.{sort_number_by, sort_numbers_by, start_of}

-- the name at the head of a term or an atom
abbrev pub head : syntax.Term Span → Span
head (syntax.Plain x) = x
head (syntax.Applied x ts) = x

-- the number of a name
abbrev pub num_of_found : Option Found → ℕ
num_of_found None = 0
num_of_found (Some f) = f.num

-- the number of a name, 0 where it has none
abbrev pub num_of_by : {V P : Type 0} → Names V P → List ℕ → ℕ
num_of_by names name = num_of_found (names.find name)

-- a name is not that of a sort
abbrev pub is_no_sort : Option Found → Bool
is_no_sort None = true
is_no_sort (Some f) = elim f.kind [ kind.Sort ↦ false | _ ↦ true ]

-- the first name of some that is no sort's
abbrev pub no_sort_in_by : {V P : Type 0} → List ℕ → Names V P → List Span → Option ℕ
no_sort_in_by bytes names ss = start_of (find (λ s. is_no_sort (names.find (text_at bytes s))) ss)

-- a name, if it is no sort's
abbrev pub no_sort_by : {V P : Type 0} → List ℕ → Names V P → Span → Option ℕ
no_sort_by bytes names s = cond (is_no_sort (names.find (text_at bytes s))) (Some s.start) None

-- the sort of a term with this head, where it is known: a variable's, or that of a function's values
abbrev pub sort_found : (ℕ → Option ℕ) → Option Found → Option ℕ
sort_found vs None = None
sort_found vs (Some f) = elim f.kind [ kind.Fun args result ↦ Some result | kind.VarName ↦ vs f.num | kind.Free sort ↦ vs f.num | _ ↦ None ]

-- the argument sorts of a variable that is known
abbrev pub no_arguments : Option ℕ → Option (List ℕ)
no_arguments None = None
no_arguments (Some s) = Some []

-- the argument sorts of a term with this head, none where it is no variable and no function
abbrev pub arguments_found : (ℕ → Option ℕ) → Option Found → Option (List ℕ)
arguments_found vs None = None
arguments_found vs (Some f) = elim f.kind [ kind.Fun args result ↦ Some args | kind.VarName ↦ no_arguments (vs f.num) | kind.Free sort ↦ no_arguments (vs f.num) | _ ↦ None ]

-- the argument sorts of an atom with this head, none where it is no predicate
abbrev pub predicate_found : (ℕ → Option (List ℕ)) → Option Found → Option (List ℕ)
predicate_found ps None = None
predicate_found ps (Some f) = elim f.kind [ kind.Pred args ↦ Some args | kind.PredName ↦ ps f.num | _ ↦ None ]

-- a term's own sort, where it is known
abbrev pub sort_of_term_by : {V P : Type 0} → List ℕ → Names V P → V → syntax.Term Span → Option ℕ
sort_of_term_by bytes names vs t = sort_found (names.sort_at vs) (names.find (text_at bytes (head t)))

-- an unknown sort fits every place
abbrev pub fits : Option ℕ → ℕ → Bool
fits None s = true
fits (Some r) s = eqb r s

-- the sorts behind the first, which a term of this sort fits
abbrev pub behind_fitting : Option ℕ → List ℕ → Option (List ℕ)
behind_fitting r [] = None
behind_fitting r (s ∷ sorts) = cond (fits r s) (Some sorts) None

-- what is behind some sorts, and then behind further ones
abbrev pub then_behind : Option (List ℕ) → (List ℕ → Option (List ℕ)) → Option (List ℕ)
then_behind None k = None
then_behind (Some sorts) k = k sorts

-- the sorts behind those that terms fit, none where some term does not fit its sort or has none
abbrev pub behind_by : {V P : Type 0} → List ℕ → Names V P → V → syntax.Terms Span → List ℕ → Option (List ℕ)
behind_by bytes names vs (syntax.One t) sorts = behind_fitting (sort_of_term_by bytes names vs t) sorts
behind_by bytes names vs (syntax.More ts t) sorts = then_behind (behind_by bytes names vs ts sorts) (λ sorts. behind_fitting (sort_of_term_by bytes names vs t) sorts)

-- no sort is left
abbrev pub is_none_left : Option (List ℕ) → Bool
is_none_left None = false
is_none_left (Some []) = true
is_none_left (Some (s ∷ sorts)) = false

-- a term or an atom has as many arguments as sorts, each of its sort
abbrev pub has_arguments_by : {V P : Type 0} → List ℕ → Names V P → V → syntax.Term Span → List ℕ → Bool
has_arguments_by bytes names vs (syntax.Plain x) sorts = is_none_left (Some sorts)
has_arguments_by bytes names vs (syntax.Applied x ts) sorts = is_none_left (behind_by bytes names vs ts sorts)

-- a head that takes arguments of these sorts has them
abbrev pub is_used_right_by : {V P : Type 0} → List ℕ → Names V P → V → syntax.Term Span → Option (List ℕ) → Bool
is_used_right_by bytes names vs t None = false
is_used_right_by bytes names vs t (Some sorts) = has_arguments_by bytes names vs t sorts

-- the head of a term or an atom, if it is used wrongly
abbrev pub wrong_head_by : {V P : Type 0} → List ℕ → Names V P → V → syntax.Term Span → Option (List ℕ) → Option ℕ
wrong_head_by bytes names vs t sorts = cond (is_used_right_by bytes names vs t sorts) None (Some (head t).start)

-- the head of a term, if it is used wrongly
abbrev pub wrong_term_by : {V P : Type 0} → List ℕ → Names V P → V → syntax.Term Span → Option ℕ
wrong_term_by bytes names vs t = wrong_head_by bytes names vs t (arguments_found (names.sort_at vs) (names.find (text_at bytes (head t))))

abbrev mutual
  -- the first wrong use in a term
  pub wrong_in_by : {V P : Type 0} → List ℕ → Names V P → V → syntax.Term Span → Option ℕ
  wrong_in_by bytes names vs (syntax.Plain x) = wrong_term_by bytes names vs (syntax.Plain x)
  wrong_in_by bytes names vs (syntax.Applied x ts) = option_or (wrong_term_by bytes names vs (syntax.Applied x ts)) (wrong_in_all_by bytes names vs ts)

  -- the first wrong use in terms
  pub wrong_in_all_by : {V P : Type 0} → List ℕ → Names V P → V → syntax.Terms Span → Option ℕ
  wrong_in_all_by bytes names vs (syntax.One t) = wrong_in_by bytes names vs t
  wrong_in_all_by bytes names vs (syntax.More ts t) = option_or (wrong_in_all_by bytes names vs ts) (wrong_in_by bytes names vs t)

-- the first wrong use in the arguments of an atom
abbrev pub wrong_in_arguments_by : {V P : Type 0} → List ℕ → Names V P → V → syntax.Term Span → Option ℕ
wrong_in_arguments_by bytes names vs (syntax.Plain x) = None
wrong_in_arguments_by bytes names vs (syntax.Applied x ts) = wrong_in_all_by bytes names vs ts

-- the first wrong use in an atom
abbrev pub wrong_in_atom_by : {V P : Type 0} → List ℕ → Names V P → V → P → syntax.Term Span → Option ℕ
wrong_in_atom_by bytes names vs ps t =
    option_or (wrong_head_by bytes names vs t (predicate_found (names.sorts_at ps) (names.find (text_at bytes (head t))))) (wrong_in_arguments_by bytes names vs t)

-- known sorts that differ
abbrev pub differ : Option ℕ → Option ℕ → Bool
differ None s = false
differ (Some r) None = false
differ (Some r) (Some s) = not (eqb r s)

-- the first wrong use in an equation: in its left side, at its sign, in its right side
abbrev pub wrong_in_equation_by : {V P : Type 0} → List ℕ → Names V P → V → Span → syntax.Term Span → syntax.Term Span → Option ℕ
wrong_in_equation_by bytes names vs at l r =
    option_or (wrong_in_by bytes names vs l)
    (option_or (cond (differ (sort_of_term_by bytes names vs l) (sort_of_term_by bytes names vs r)) (Some at.start) None) (wrong_in_by bytes names vs r))

-- the sort number of a binder, that of `obj` where no sort is written
abbrev pub binder_sort_by : {V P : Type 0} → List ℕ → Names V P → Option Span → ℕ
binder_sort_by bytes names None = 0
binder_sort_by bytes names (Some s) = sort_number_by bytes names.find s

-- the sort of a binder, if one is written that is no sort's name
abbrev pub wrong_sort_by : {V P : Type 0} → List ℕ → Names V P → Option Span → Option ℕ
wrong_sort_by bytes names None = None
wrong_sort_by bytes names (Some s) = no_sort_by bytes names s

-- the first wrong use in a formula
abbrev pub wrong_by : {V P : Type 0} → List ℕ → Names V P → V → P → syntax.Tree Span → Option ℕ
wrong_by bytes names vs ps (syntax.Constant b) = None
wrong_by bytes names vs ps (syntax.Atom t) = wrong_in_atom_by bytes names vs ps t
wrong_by bytes names vs ps (syntax.Equation b at l r) = wrong_in_equation_by bytes names vs at l r
wrong_by bytes names vs ps (syntax.Not a) = wrong_by bytes names vs ps a
wrong_by bytes names vs ps (syntax.Bind q x s a) =
    option_or (wrong_sort_by bytes names s) (wrong_by bytes names (names.with_sort vs (num_of_by names (text_at bytes x)) (binder_sort_by bytes names s)) ps a)
wrong_by bytes names vs ps (syntax.Bind2 q p ss a) =
    option_or (no_sort_in_by bytes names ss) (wrong_by bytes names vs (names.with_sorts ps (num_of_by names (text_at bytes p)) (sort_numbers_by bytes names.find ss)) a)
wrong_by bytes names vs ps (syntax.Binary op l r) = option_or (wrong_by bytes names vs ps l) (wrong_by bytes names vs ps r)
wrong_by bytes names vs ps (syntax.Paren a) = wrong_by bytes names vs ps a

-- ---- the same in a problem, by its declarations and names

-- the number of a name, 0 where it has none
abbrev pub num_of : List Declaration → List ℕ → ℕ
num_of ds = num_of_by (problem_names ds)

-- the first name of some that is no sort's
abbrev pub no_sort_in : List ℕ → List Declaration → List Span → Option ℕ
no_sort_in bytes ds = no_sort_in_by bytes (problem_names ds)

-- a name, if it is no sort's
abbrev pub no_sort : List ℕ → List Declaration → Span → Option ℕ
no_sort bytes ds = no_sort_by bytes (problem_names ds)

-- the sort of a term with this head, where it is known: a variable's, or that of a function's values
abbrev pub sort_by : List (Option ℕ) → Option Found → Option ℕ
sort_by vs = sort_found (λ n. get_or vs n None)

-- the argument sorts of a term with this head, none where it is no variable and no function
abbrev pub arguments_by : List (Option ℕ) → Option Found → Option (List ℕ)
arguments_by vs = arguments_found (λ n. get_or vs n None)

-- the argument sorts of an atom with this head, none where it is no predicate
abbrev pub predicate_by : List (Option (List ℕ)) → Option Found → Option (List ℕ)
predicate_by ps = predicate_found (λ n. get_or ps n None)

-- a term's own sort, where it is known
abbrev pub sort_of_term : List ℕ → List Declaration → List (Option ℕ) → syntax.Term Span → Option ℕ
sort_of_term bytes ds = sort_of_term_by bytes (problem_names ds)

-- the sorts behind those that terms fit, none where some term does not fit its sort or has none
abbrev pub behind : List ℕ → List Declaration → List (Option ℕ) → syntax.Terms Span → List ℕ → Option (List ℕ)
behind bytes ds = behind_by bytes (problem_names ds)

-- a term or an atom has as many arguments as sorts, each of its sort
abbrev pub has_arguments : List ℕ → List Declaration → List (Option ℕ) → syntax.Term Span → List ℕ → Bool
has_arguments bytes ds = has_arguments_by bytes (problem_names ds)

-- the head of a term, if it is used wrongly
abbrev pub wrong_term : List ℕ → List Declaration → List (Option ℕ) → syntax.Term Span → Option ℕ
wrong_term bytes ds = wrong_term_by bytes (problem_names ds)

-- the first wrong use in a term
abbrev pub wrong_in : List ℕ → List Declaration → List (Option ℕ) → syntax.Term Span → Option ℕ
wrong_in bytes ds = wrong_in_by bytes (problem_names ds)

-- the first wrong use in terms
abbrev pub wrong_in_all : List ℕ → List Declaration → List (Option ℕ) → syntax.Terms Span → Option ℕ
wrong_in_all bytes ds = wrong_in_all_by bytes (problem_names ds)

-- the first wrong use in the arguments of an atom
abbrev pub wrong_in_arguments : List ℕ → List Declaration → List (Option ℕ) → syntax.Term Span → Option ℕ
wrong_in_arguments bytes ds = wrong_in_arguments_by bytes (problem_names ds)

-- the first wrong use in an atom
abbrev pub wrong_in_atom : List ℕ → List Declaration → List (Option ℕ) → List (Option (List ℕ)) → syntax.Term Span → Option ℕ
wrong_in_atom bytes ds = wrong_in_atom_by bytes (problem_names ds)

-- the first wrong use in an equation: in its left side, at its sign, in its right side
abbrev pub wrong_in_equation : List ℕ → List Declaration → List (Option ℕ) → Span → syntax.Term Span → syntax.Term Span → Option ℕ
wrong_in_equation bytes ds = wrong_in_equation_by bytes (problem_names ds)

-- the sort number of a binder, that of `obj` where no sort is written
abbrev pub binder_sort : List ℕ → List Declaration → Option Span → ℕ
binder_sort bytes ds = binder_sort_by bytes (problem_names ds)

-- the sort of a binder, if one is written that is no sort's name
abbrev pub wrong_sort : List ℕ → List Declaration → Option Span → Option ℕ
wrong_sort bytes ds = wrong_sort_by bytes (problem_names ds)

-- the first wrong use in a formula
abbrev pub wrong : List ℕ → List Declaration → List (Option ℕ) → List (Option (List ℕ)) → syntax.Tree Span → Option ℕ
wrong bytes ds = wrong_by bytes (problem_names ds)

-- the first name in a declaration that is no sort's in the place of one
abbrev pub wrong_in_one : List ℕ → List Declaration → syntax.Declared Span → Option ℕ
wrong_in_one bytes ds (syntax.DeclaredSort s) = None
wrong_in_one bytes ds (syntax.DeclaredFun f ss r) = option_or (no_sort_in bytes ds ss) (no_sort bytes ds r)
wrong_in_one bytes ds (syntax.DeclaredPred p ss) = no_sort_in bytes ds ss
wrong_in_one bytes ds (syntax.DeclaredVar x s) = no_sort bytes ds s

-- the first wrong use in declarations
abbrev pub wrong_in_declared : List ℕ → List Declaration → List (syntax.Declared Span) → Option ℕ
wrong_in_declared bytes ds [] = None
wrong_in_declared bytes ds (d ∷ more) = option_or (wrong_in_one bytes ds d) (wrong_in_declared bytes ds more)

-- what all numbers below one have, in order
abbrev pub all_below : {A : Type 0} → ℕ → (ℕ → A) → List A
all_below zero f = []
all_below (suc n) f = all_below n f ++ f n ∷ []

-- outside all binders a declared free variable has its sort
abbrev pub free_sorts : List Declaration → List (Option ℕ)
free_sorts ds = all_below (count_of numbering.Variable ds) (free_sort_of ds)

-- outside all binders no bound predicate has sorts
abbrev pub no_sorts : List Declaration → List (Option (List ℕ))
no_sorts ds = all_below (count_of numbering.BoundPred ds) (λ n. None)

-- the first wrong use in a problem, by the declarations and names of the whole text
abbrev pub wrong_in_problem : List ℕ → List Declaration → syntax.Problem Span → Option ℕ
wrong_in_problem bytes ds p = option_or (wrong_in_declared bytes ds p.declared) (wrong bytes ds (free_sorts ds) (no_sorts ds) p.goal)
