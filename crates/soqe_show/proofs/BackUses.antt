-- Which names of a tree of texts are used rightly, by any look-up; a tree over places is used as its texts are.
use Rattle.std.proofs.Common.{◌≡◌, ℕ, Bool, true, false, cond, not, ◌&&◌, List, [], ◌∷◌, map, find, Option, Some, None, is_none, refl, ◌∙◌, ap, sym}
use Rattle.std.specs.List.{list_all}
use Rattle.std.specs.Option.{option_or}
use Rattle.soqe_syntax.specs.declared.piece.Span.{Span}
use Rattle.soqe_syntax.specs.Grammar.{Term, Plain, Applied, Terms, One, More, Tree, Constant, Atom, Equation, Not, Bind, Bind2, Binary, Paren}
use Rattle.soqe_syntax.specs.Pieces.{text_at}
use Rattle.soqe_signature.specs.Declarations.{Declaration, Found}
use Rattle.soqe_text.specs.Meanings.{Names, problem_names}
use Rattle.soqe_text.specs.Naming.{start_of, sort_numbers_by}
use Rattle.soqe_text.specs.Uses.{head, num_of_by, is_no_sort, no_sort_in_by, no_sort_by, sort_found, arguments_found, predicate_found, sort_of_term_by, behind_fitting, then_behind, behind_by, is_none_left, is_used_right_by, wrong_head_by, wrong_term_by, wrong_in_by, wrong_in_all_by, wrong_in_arguments_by, wrong_in_atom_by, differ, wrong_in_equation_by, binder_sort_by, wrong_sort_by, wrong_by}
use Rattle.soqe_show.specs.Printed.{Text}
use Rattle.soqe_show.specs.Placed.{texts_term, texts_terms, texts_sort, texts}
use Rattle.soqe_show.proofs.BackKnown.{number_of_by, none_or, from_none, numbers_of}

-- the name at the head of a term
abbrev pub head_of : Term Text → Text
head_of (Plain x) = x
head_of (Applied x ts) = x

-- a term's own sort, where it is known
abbrev pub sort_of_by : {V P : Type 0} → Names V P → V → Term Text → Option ℕ
sort_of_by names vs t = sort_found (names.sort_at vs) (names.find (head_of t))

-- the sorts behind those that terms fit
abbrev pub behind_terms_by : {V P : Type 0} → Names V P → V → Terms Text → List ℕ → Option (List ℕ)
behind_terms_by names vs (One t) sorts = behind_fitting (sort_of_by names vs t) sorts
behind_terms_by names vs (More ts t) sorts = then_behind (behind_terms_by names vs ts sorts) (λ sorts. behind_fitting (sort_of_by names vs t) sorts)

-- a term or an atom has as many arguments as sorts, each of its sort
abbrev pub fits_sorts_by : {V P : Type 0} → Names V P → V → Term Text → List ℕ → Bool
fits_sorts_by names vs (Plain x) sorts = is_none_left (Some sorts)
fits_sorts_by names vs (Applied x ts) sorts = is_none_left (behind_terms_by names vs ts sorts)

-- a head that takes arguments of these sorts has them
abbrev pub is_right_by : {V P : Type 0} → Names V P → V → Term Text → Option (List ℕ) → Bool
is_right_by names vs t None = false
is_right_by names vs t (Some sorts) = fits_sorts_by names vs t sorts

-- the head of a term is used rightly
abbrev pub right_term_by : {V P : Type 0} → Names V P → V → Term Text → Bool
right_term_by names vs t = is_right_by names vs t (arguments_found (names.sort_at vs) (names.find (head_of t)))

abbrev mutual
  -- each head in a term is used rightly
  pub right_in_by : {V P : Type 0} → Names V P → V → Term Text → Bool
  right_in_by names vs (Plain x) = right_term_by names vs (Plain x)
  right_in_by names vs (Applied x ts) = right_term_by names vs (Applied x ts) && right_in_all_by names vs ts

  -- each head in terms is used rightly
  pub right_in_all_by : {V P : Type 0} → Names V P → V → Terms Text → Bool
  right_in_all_by names vs (One t) = right_in_by names vs t
  right_in_all_by names vs (More ts t) = right_in_all_by names vs ts && right_in_by names vs t

-- each head in the arguments of an atom is used rightly
abbrev pub right_arguments_by : {V P : Type 0} → Names V P → V → Term Text → Bool
right_arguments_by names vs (Plain x) = true
right_arguments_by names vs (Applied x ts) = right_in_all_by names vs ts

-- the names of an atom are used rightly
abbrev pub right_atom_by : {V P : Type 0} → Names V P → V → P → Term Text → Bool
right_atom_by names vs ps t = is_right_by names vs t (predicate_found (names.sorts_at ps) (names.find (head_of t))) && right_arguments_by names vs t

-- the names of an equation are used rightly, and its sides have one sort where both are known
abbrev pub right_equation_by : {V P : Type 0} → Names V P → V → Term Text → Term Text → Bool
right_equation_by names vs l r = right_in_by names vs l && (not (differ (sort_of_by names vs l) (sort_of_by names vs r)) && right_in_by names vs r)

-- a name is that of a sort
abbrev pub is_sort_by : {V P : Type 0} → Names V P → Text → Bool
is_sort_by names s = not (is_no_sort (names.find s))

-- the sort of a binder is that of a sort, where one is written
abbrev pub right_sort_by : {V P : Type 0} → Names V P → Option Text → Bool
right_sort_by names None = true
right_sort_by names (Some s) = is_sort_by names s

-- the sort number of a binder, that of `obj` where no sort is written
abbrev pub sort_of_binder_by : {V P : Type 0} → Names V P → Option Text → ℕ
sort_of_binder_by names None = 0
sort_of_binder_by names (Some s) = number_of_by names.find s

-- All names of a tree are used rightly.
abbrev pub IsRight_by : {V P : Type 0} → Names V P → V → P → Tree Text → Type 0
IsRight_by names vs ps (Constant b) = Unit {0}
IsRight_by names vs ps (Atom t) = right_atom_by names vs ps t ≡ true
IsRight_by names vs ps (Equation b sign l r) = right_equation_by names vs l r ≡ true
IsRight_by names vs ps (Not a) = IsRight_by names vs ps a
IsRight_by names vs ps (Bind q x s a) = (right_sort_by names s ≡ true) × IsRight_by names (names.with_sort vs (num_of_by names x) (sort_of_binder_by names s)) ps a
IsRight_by names vs ps (Bind2 q p ss a) = (list_all (is_sort_by names) ss ≡ true) × IsRight_by names vs (names.with_sorts ps (num_of_by names p) (map (number_of_by names.find) ss)) a
IsRight_by names vs ps (Binary op l r) = IsRight_by names vs ps l × IsRight_by names vs ps r
IsRight_by names vs ps (Paren a) = IsRight_by names vs ps a

-- ---- the same in a problem, by its declarations and names

-- a term's own sort, where it is known
abbrev pub sort_of : List Declaration → List (Option ℕ) → Term Text → Option ℕ
sort_of ds = sort_of_by (problem_names ds)

-- the sorts behind those that terms fit
abbrev pub behind_terms : List Declaration → List (Option ℕ) → Terms Text → List ℕ → Option (List ℕ)
behind_terms ds = behind_terms_by (problem_names ds)

-- a head that takes arguments of these sorts has them
abbrev pub is_right : List Declaration → List (Option ℕ) → Term Text → Option (List ℕ) → Bool
is_right ds = is_right_by (problem_names ds)

-- the head of a term is used rightly
abbrev pub right_term : List Declaration → List (Option ℕ) → Term Text → Bool
right_term ds = right_term_by (problem_names ds)

-- each head in a term is used rightly
abbrev pub right_in : List Declaration → List (Option ℕ) → Term Text → Bool
right_in ds = right_in_by (problem_names ds)

-- each head in terms is used rightly
abbrev pub right_in_all : List Declaration → List (Option ℕ) → Terms Text → Bool
right_in_all ds = right_in_all_by (problem_names ds)

-- the names of an atom are used rightly
abbrev pub right_atom : List Declaration → List (Option ℕ) → List (Option (List ℕ)) → Term Text → Bool
right_atom ds = right_atom_by (problem_names ds)

-- a name is that of a sort
abbrev pub is_sort : List Declaration → Text → Bool
is_sort ds = is_sort_by (problem_names ds)

-- the sort of a binder is that of a sort, where one is written
abbrev pub right_sort : List Declaration → Option Text → Bool
right_sort ds = right_sort_by (problem_names ds)

-- the sort number of a binder, that of `obj` where no sort is written
abbrev pub sort_of_binder : List Declaration → Option Text → ℕ
sort_of_binder ds = sort_of_binder_by (problem_names ds)

-- All names of a tree are used rightly.
abbrev pub IsRight : List Declaration → List (Option ℕ) → List (Option (List ℕ)) → Tree Text → Type 0
IsRight ds = IsRight_by (problem_names ds)

-- ---- laws

heads_is : (bytes : List ℕ) (t : Term Span) → text_at bytes (head t) ≡ head_of (texts_term bytes t)
heads_is bytes (Plain x) = refl
heads_is bytes (Applied x ts) = refl

sort_is : {V P : Type 0} (bytes : List ℕ) (names : Names V P) (vs : V) (t : Term Span) → sort_of_term_by bytes names vs t ≡ sort_of_by names vs (texts_term bytes t)
sort_is bytes names vs t = ap (λ x. sort_found (names.sort_at vs) (names.find x)) (heads_is bytes t)

behind_is : {V P : Type 0} (bytes : List ℕ) (names : Names V P) (vs : V) (ts : Terms Span) (sorts : List ℕ)
    → behind_by bytes names vs ts sorts ≡ behind_terms_by names vs (texts_terms bytes ts) sorts
behind_is bytes names vs (One t) sorts = ap (λ r. behind_fitting r sorts) (sort_is bytes names vs t)
behind_is bytes names vs (More ts t) sorts = (λ i. then_behind (behind_is bytes names vs ts sorts i) (λ sorts. behind_fitting (sort_is bytes names vs t i) sorts))

used_is : {V P : Type 0} (bytes : List ℕ) (names : Names V P) (vs : V) (t : Term Span) (sorts : Option (List ℕ))
    → is_used_right_by bytes names vs t sorts ≡ is_right_by names vs (texts_term bytes t) sorts
used_is bytes names vs t None = refl
used_is bytes names vs (Plain x) (Some sorts) = refl
used_is bytes names vs (Applied x ts) (Some sorts) = ap is_none_left (behind_is bytes names vs ts sorts)

none_if : (b : Bool) (n : ℕ) → is_none (cond b None (Some n)) ≡ b
none_if true n = refl
none_if false n = refl

none_when : (b : Bool) (n : ℕ) → is_none (cond b (Some n) None) ≡ not b
none_when true n = refl
none_when false n = refl

head_is : {V P : Type 0} (bytes : List ℕ) (names : Names V P) (vs : V) (t : Term Span) (sorts : Option Found → Option (List ℕ))
    → is_none (wrong_head_by bytes names vs t (sorts (names.find (text_at bytes (head t))))) ≡ is_right_by names vs (texts_term bytes t) (sorts (names.find (head_of (texts_term bytes t))))
head_is bytes names vs t sorts =
    none_if (is_used_right_by bytes names vs t (sorts (names.find (text_at bytes (head t))))) (head t).start
    ∙ used_is bytes names vs t (sorts (names.find (text_at bytes (head t))))
    ∙ ap (λ x. is_right_by names vs (texts_term bytes t) (sorts (names.find x))) (heads_is bytes t)

mutual
  term_is : {V P : Type 0} (bytes : List ℕ) (names : Names V P) (vs : V) (t : Term Span) → is_none (wrong_in_by bytes names vs t) ≡ right_in_by names vs (texts_term bytes t)
  term_is bytes names vs (Plain x) = head_is bytes names vs (Plain x) (arguments_found (names.sort_at vs))
  term_is bytes names vs (Applied x ts) =
      none_or (wrong_term_by bytes names vs (Applied x ts)) (wrong_in_all_by bytes names vs ts)
      ∙ (λ i. head_is bytes names vs (Applied x ts) (arguments_found (names.sort_at vs)) i && terms_is bytes names vs ts i)

  terms_is : {V P : Type 0} (bytes : List ℕ) (names : Names V P) (vs : V) (ts : Terms Span) → is_none (wrong_in_all_by bytes names vs ts) ≡ right_in_all_by names vs (texts_terms bytes ts)
  terms_is bytes names vs (One t) = term_is bytes names vs t
  terms_is bytes names vs (More ts t) =
      none_or (wrong_in_all_by bytes names vs ts) (wrong_in_by bytes names vs t)
      ∙ (λ i. terms_is bytes names vs ts i && term_is bytes names vs t i)

arguments_is : {V P : Type 0} (bytes : List ℕ) (names : Names V P) (vs : V) (t : Term Span) → is_none (wrong_in_arguments_by bytes names vs t) ≡ right_arguments_by names vs (texts_term bytes t)
arguments_is bytes names vs (Plain x) = refl
arguments_is bytes names vs (Applied x ts) = terms_is bytes names vs ts

atom_is : {V P : Type 0} (bytes : List ℕ) (names : Names V P) (vs : V) (ps : P) (t : Term Span)
    → is_none (wrong_in_atom_by bytes names vs ps t) ≡ right_atom_by names vs ps (texts_term bytes t)
atom_is bytes names vs ps t =
    none_or (wrong_head_by bytes names vs t (predicate_found (names.sorts_at ps) (names.find (text_at bytes (head t))))) (wrong_in_arguments_by bytes names vs t)
    ∙ (λ i. head_is bytes names vs t (predicate_found (names.sorts_at ps)) i && arguments_is bytes names vs t i)

equation_is : {V P : Type 0} (bytes : List ℕ) (names : Names V P) (vs : V) (at : Span) (l r : Term Span)
    → is_none (wrong_in_equation_by bytes names vs at l r) ≡ right_equation_by names vs (texts_term bytes l) (texts_term bytes r)
equation_is bytes names vs at l r =
    let apart = differ (sort_of_term_by bytes names vs l) (sort_of_term_by bytes names vs r) in
    none_or (wrong_in_by bytes names vs l) (option_or (cond apart (Some at.start) None) (wrong_in_by bytes names vs r))
    ∙ ap (λ b. is_none (wrong_in_by bytes names vs l) && b) (none_or (cond apart (Some at.start) None) (wrong_in_by bytes names vs r) ∙ ap (λ b. b && is_none (wrong_in_by bytes names vs r)) (none_when apart at.start))
    ∙ (λ i. term_is bytes names vs l i && (not (differ (sort_is bytes names vs l i) (sort_is bytes names vs r i)) && term_is bytes names vs r i))

pub sorts_is : {V P : Type 0} (bytes : List ℕ) (names : Names V P) (ss : List Span) → is_none (no_sort_in_by bytes names ss) ≡ list_all (is_sort_by names) (map (text_at bytes) ss)
sorts_is bytes names [] = refl
sorts_is bytes names (s ∷ ss) = by (is_no_sort (names.find (text_at bytes s))) (sorts_is bytes names ss)
  where
    by : (b : Bool) → is_none (no_sort_in_by bytes names ss) ≡ list_all (is_sort_by names) (map (text_at bytes) ss)
        → is_none (start_of (cond b (Some s) (find (λ s. is_no_sort (names.find (text_at bytes s))) ss))) ≡ (not b && list_all (is_sort_by names) (map (text_at bytes) ss))
    by true h = refl
    by false h = h

pub one_sort_is : {V P : Type 0} (bytes : List ℕ) (names : Names V P) (s : Span) → is_none (no_sort_by bytes names s) ≡ is_sort_by names (text_at bytes s)
one_sort_is bytes names s = none_when (is_no_sort (names.find (text_at bytes s))) s.start

written_sort_is : {V P : Type 0} (bytes : List ℕ) (names : Names V P) (s : Option Span) → is_none (wrong_sort_by bytes names s) ≡ right_sort_by names (texts_sort bytes s)
written_sort_is bytes names None = refl
written_sort_is bytes names (Some s) = one_sort_is bytes names s

pub binder_sort_is : {V P : Type 0} (bytes : List ℕ) (names : Names V P) (s : Option Span) → binder_sort_by bytes names s ≡ sort_of_binder_by names (texts_sort bytes s)
binder_sort_is bytes names None = refl
binder_sort_is bytes names (Some s) = refl

-- where neither of two is, none of both is
pub neither : (a b : Option ℕ) → option_or a b ≡ None → (a ≡ None) × (b ≡ None)
neither None b h = (refl, h)
neither (Some n) b h = cc

pub both_none : (a b : Option ℕ) → a ≡ None → b ≡ None → option_or a b ≡ None
both_none a b h k = ap (λ a. option_or a b) h ∙ k

right_none : (o : Option ℕ) (b : Bool) → is_none o ≡ b → o ≡ None → b ≡ true
right_none o b e h = sym e ∙ ap is_none h

none_right : (o : Option ℕ) (b : Bool) → is_none o ≡ b → b ≡ true → o ≡ None
none_right o b e h = from_none o (e ∙ h)

-- a tree over places without a wrong use has texts without one
pub right_texts : {V P : Type 0} (bytes : List ℕ) (names : Names V P) (vs : V) (ps : P) (t : Tree Span)
    → wrong_by bytes names vs ps t ≡ None → IsRight_by names vs ps (texts bytes t)
right_texts bytes names vs ps (Constant b) h = tt
right_texts bytes names vs ps (Atom t) h = right_none (wrong_in_atom_by bytes names vs ps t) _ (atom_is bytes names vs ps t) h
right_texts bytes names vs ps (Equation b at l r) h = right_none (wrong_in_equation_by bytes names vs at l r) _ (equation_is bytes names vs at l r) h
right_texts bytes names vs ps (Not a) h = right_texts bytes names vs ps a h
right_texts bytes names vs ps (Bind q x s a) h =
    let k = neither (wrong_sort_by bytes names s) (wrong_by bytes names (names.with_sort vs (num_of_by names (text_at bytes x)) (binder_sort_by bytes names s)) ps a) h in
    let below = ap (λ n. wrong_by bytes names (names.with_sort vs (num_of_by names (text_at bytes x)) n) ps a) (sym (binder_sort_is bytes names s)) ∙ k.1 in
    (right_none (wrong_sort_by bytes names s) _ (written_sort_is bytes names s) k.0, right_texts bytes names (names.with_sort vs (num_of_by names (text_at bytes x)) (sort_of_binder_by names (texts_sort bytes s))) ps a below)
right_texts bytes names vs ps (Bind2 q p ss a) h =
    let k = neither (no_sort_in_by bytes names ss) (wrong_by bytes names vs (names.with_sorts ps (num_of_by names (text_at bytes p)) (sort_numbers_by bytes names.find ss)) a) h in
    let below = ap (λ ns. wrong_by bytes names vs (names.with_sorts ps (num_of_by names (text_at bytes p)) ns) a) (sym (numbers_of bytes names.find ss)) ∙ k.1 in
    (right_none (no_sort_in_by bytes names ss) _ (sorts_is bytes names ss) k.0, right_texts bytes names vs (names.with_sorts ps (num_of_by names (text_at bytes p)) (map (number_of_by names.find) (map (text_at bytes) ss))) a below)
right_texts bytes names vs ps (Binary op l r) h =
    let k = neither (wrong_by bytes names vs ps l) (wrong_by bytes names vs ps r) h in
    (right_texts bytes names vs ps l k.0, right_texts bytes names vs ps r k.1)
right_texts bytes names vs ps (Paren a) h = right_texts bytes names vs ps a h

-- a tree over places whose texts have no wrong use has none
pub texts_right : {V P : Type 0} (bytes : List ℕ) (names : Names V P) (vs : V) (ps : P) (t : Tree Span)
    → IsRight_by names vs ps (texts bytes t) → wrong_by bytes names vs ps t ≡ None
texts_right bytes names vs ps (Constant b) h = refl
texts_right bytes names vs ps (Atom t) h = none_right (wrong_in_atom_by bytes names vs ps t) _ (atom_is bytes names vs ps t) h
texts_right bytes names vs ps (Equation b at l r) h = none_right (wrong_in_equation_by bytes names vs at l r) _ (equation_is bytes names vs at l r) h
texts_right bytes names vs ps (Not a) h = texts_right bytes names vs ps a h
texts_right bytes names vs ps (Bind q x s a) h =
    both_none (wrong_sort_by bytes names s) _ (none_right (wrong_sort_by bytes names s) _ (written_sort_is bytes names s) h.0)
    (ap (λ n. wrong_by bytes names (names.with_sort vs (num_of_by names (text_at bytes x)) n) ps a) (binder_sort_is bytes names s) ∙ texts_right bytes names (names.with_sort vs (num_of_by names (text_at bytes x)) (sort_of_binder_by names (texts_sort bytes s))) ps a h.1)
texts_right bytes names vs ps (Bind2 q p ss a) h =
    both_none (no_sort_in_by bytes names ss) _ (none_right (no_sort_in_by bytes names ss) _ (sorts_is bytes names ss) h.0)
    (ap (λ ns. wrong_by bytes names vs (names.with_sorts ps (num_of_by names (text_at bytes p)) ns) a) (numbers_of bytes names.find ss) ∙ texts_right bytes names vs (names.with_sorts ps (num_of_by names (text_at bytes p)) (map (number_of_by names.find) (map (text_at bytes) ss))) a h.1)
texts_right bytes names vs ps (Binary op l r) h = both_none (wrong_by bytes names vs ps l) _ (texts_right bytes names vs ps l h.0) (texts_right bytes names vs ps r h.1)
texts_right bytes names vs ps (Paren a) h = texts_right bytes names vs ps a h
