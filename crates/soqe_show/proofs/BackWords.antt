-- Each name of a printed problem is a word: it was read as a name that is known, and all known names are ordinary.
use Rattle.std.proofs.Common.{◌≡◌, ℕ, Bool, true, false, cond, eqb, not, ◌&&◌, nat_lt, List, [], ◌∷◌, map, Option, Some, None, set, refl, ◌∙◌, ap, sym, inl, true≢false}
use Rattle.std.specs.List.{list_all}
use Rattle.soqe_lex.specs.declared.token.TokenKind.{TokenKind}
use Rattle.soqe_lex.specs.declared.token.TokenKind.TheVariants.{Ordinary, Keyword}
use Rattle.soqe_lex.specs.Lexical.{kind_of}
use Rattle.soqe_name.specs.Names.{is_word, is_keyword, is_ordinary}
use Rattle.std.specs.Char.{is_ascii_alphabetic}
use Rattle.soqe_syntax.specs.Grammar.{Term, Plain, Applied, Terms, One, More, Tree, Constant, Atom, Equation, Not, Bind, Bind2, Binary, Paren, Declared, DeclaredSort, DeclaredFun, DeclaredPred, DeclaredVar, level, left, right}
use Rattle.soqe_number.proofs.Choices.{and_first, and_second}
use Rattle.soqe_signature.specs.Declarations.{Declaration, Found, lookup}
use Rattle.soqe_text.specs.Uses.{num_of, is_no_sort, arguments_by, predicate_by}
use Rattle.soqe_show.specs.Printed.{Text}
use Rattle.soqe_show.specs.Dress.{guard, negated}
use Rattle.soqe_show.specs.Placed.{IsWord, AreWords_term, AreWords_terms, AreWords_sort, AreWords_sorts, AreWords, AreWords_declared, AreWords_all_declared}
use Rattle.soqe_show.proofs.BackDeclared.{right_one}
use Rattle.soqe_show.proofs.BackKnown.{number_of}
use Rattle.soqe_show.proofs.BackNames.{Named, NamedDeclared, AllNamedDeclared}
use Rattle.soqe_show.proofs.BackUses.{is_right, right_term, right_in, right_in_all, right_atom, is_sort, right_sort, sort_of_binder, IsRight}
use Rattle.soqe_show.proofs.BackNormal.{kept_sort, normal}
use Rattle.soqe_show.proofs.BackLookups.{Grows, are_ordinary, ordinary_known, variable_enters, predicate_enters, named_grows, new_unknown}

-- an ordinary name is a word
pub ordinary_word : (x : Text) → is_ordinary x ≡ true → IsWord x
unfolding kind_of
ordinary_word [] h = absurd (true≢false (sym h))
ordinary_word (b ∷ bs) h = inl (by (is_ascii_alphabetic b) (list_all is_word bs) (is_keyword (b ∷ bs)) _ h)
  where
    by : (a w k : Bool) (other : Option TokenKind) → (a && w && not k) ≡ true → cond a (cond w (Some (cond k Keyword Ordinary)) None) other ≡ Some Ordinary
    by true true false other h = refl
    by true true true other h = absurd (true≢false (sym h))
    by true false k other h = absurd (true≢false (sym h))
    by false w k other h = absurd (true≢false (sym h))

module _ (ds : List Declaration) (ordinary : are_ordinary ds ≡ true) where
  known_word : (x : Text) (f : Found) → lookup ds x ≡ Some f → IsWord x
  known_word x f known = ordinary_word x (ordinary_known ds x f ordinary known)

  -- the head of a term or an atom that is used rightly
  head_word : (vs : List (Option ℕ)) (t : Term Text) (x : Text) (sorts : Option Found → Option (List ℕ)) → sorts None ≡ None → is_right ds vs t (sorts (lookup ds x)) ≡ true → IsWord x
  head_word vs t x sorts none h = by (lookup ds x) refl h
    where
      by : (found : Option Found) → lookup ds x ≡ found → is_right ds vs t (sorts found) ≡ true → IsWord x
      by None known h = absurd (true≢false (sym h ∙ ap (is_right ds vs t) none))
      by (Some f) known h = known_word x f known

  sort_word : (s : Text) → is_sort ds s ≡ true → IsWord s
  sort_word s h = by (lookup ds s) refl h
    where
      by : (found : Option Found) → lookup ds s ≡ found → not (is_no_sort found) ≡ true → IsWord s
      by None known h = absurd (true≢false (sym h))
      by (Some f) known h = known_word s f known

  sort_words : (ss : List Text) → list_all (is_sort ds) ss ≡ true → AreWords_sorts ss
  sort_words [] h = tt
  sort_words (s ∷ ss) h = (sort_word s (and_first (is_sort ds s) _ h), sort_words ss (and_second (is_sort ds s) _ h))

  binder_word : (s : Option Text) → right_sort ds s ≡ true → AreWords_sort (kept_sort ds s)
  binder_word None h = tt
  binder_word (Some s) h = by (eqb (number_of ds s) 0)
    where
      by : (b : Bool) → AreWords_sort (cond b None (Some s))
      by true = tt
      by false = sort_word s h

mutual
  term_words : (ds : List Declaration) (ordinary : are_ordinary ds ≡ true) (vs : List (Option ℕ)) (t : Term Text) → right_in ds vs t ≡ true → AreWords_term t
  term_words ds ordinary vs (Plain x) h = head_word ds ordinary vs (Plain x) x (arguments_by vs) refl h
  term_words ds ordinary vs (Applied x ts) h = (
    head_word ds ordinary vs (Applied x ts) x (arguments_by vs) refl (and_first (right_term ds vs (Applied x ts)) _ h),
    terms_words ds ordinary vs ts (and_second (right_term ds vs (Applied x ts)) _ h),
  )

  terms_words : (ds : List Declaration) (ordinary : are_ordinary ds ≡ true) (vs : List (Option ℕ)) (ts : Terms Text) → right_in_all ds vs ts ≡ true → AreWords_terms ts
  terms_words ds ordinary vs (One t) h = term_words ds ordinary vs t h
  terms_words ds ordinary vs (More ts t) h = (
    terms_words ds ordinary vs ts (and_first (right_in_all ds vs ts) _ h),
    term_words ds ordinary vs t (and_second (right_in_all ds vs ts) _ h),
  )

words_guard : (k : ℕ) (t : Tree Text) → AreWords t → AreWords (guard k t)
words_guard k t h = by (nat_lt (level t) k)
  where
    by : (b : Bool) → AreWords (cond b (Paren t) t)
    by true = h
    by false = h

words_negated : (t : Tree Text) → AreWords t → AreWords (negated t)
words_negated (Equation false sign l r) h = (refl, h.1, h.2)
words_negated (Equation true sign l r) h = words_guard 4 (Equation true sign l r) h
words_negated (Constant b) h = words_guard 4 (Constant b) h
words_negated (Atom t) h = words_guard 4 (Atom t) h
words_negated (Not t) h = words_guard 4 (Not t) h
words_negated (Bind q x s t) h = words_guard 4 (Bind q x s t) h
words_negated (Bind2 q x ss t) h = words_guard 4 (Bind2 q x ss t) h
words_negated (Binary op l r) h = words_guard 4 (Binary op l r) h
words_negated (Paren t) h = words_guard 4 (Paren t) h

atom_words : (ds : List Declaration) (ordinary : are_ordinary ds ≡ true) (vs : List (Option ℕ)) (ps : List (Option (List ℕ))) (t : Term Text)
    → right_atom ds vs ps t ≡ true → AreWords_term t
atom_words ds ordinary vs ps (Plain p) h = head_word ds ordinary vs (Plain p) p (predicate_by ps) refl (and_first (is_right ds vs (Plain p) (predicate_by ps (lookup ds p))) _ h)
atom_words ds ordinary vs ps (Applied p ts) h =
    let head = is_right ds vs (Applied p ts) (predicate_by ps (lookup ds p)) in
    (head_word ds ordinary vs (Applied p ts) p (predicate_by ps) refl (and_first head _ h), terms_words ds ordinary vs ts (and_second head _ h))

-- the names of the tree that is printed
pub tree_words : (fs ds : List Declaration) (vs ps : List ℕ) (t : Tree Text) (new : List Declaration) → are_ordinary fs ≡ true → Named ds vs ps t new → Grows new fs
    → (sorts : List (Option ℕ)) (args : List (Option (List ℕ))) → IsRight fs sorts args t → AreWords (normal fs t)
tree_words fs ds vs ps (Constant b) new ordinary named grows sorts args h = tt
tree_words fs ds vs ps (Atom t) new ordinary named grows sorts args h = atom_words fs ordinary sorts args t h
tree_words fs ds vs ps (Equation b sign l r) new ordinary named grows sorts args h =
    let rest = and_second (right_in fs sorts l) _ h in
    (refl, term_words fs ordinary sorts l (and_first (right_in fs sorts l) _ h), term_words fs ordinary sorts r (and_second _ (right_in fs sorts r) rest))
tree_words fs ds vs ps (Not a) new ordinary named grows sorts args h = words_negated (normal fs a) (tree_words fs ds vs ps a new ordinary named grows sorts args h)
tree_words fs ds vs ps (Bind q x s a) new ordinary named grows sorts args h =
    let e = named.0 in
    let entered = variable_enters ds x e named.1 in
    let known = grows x entered.found (named_grows e.declared (e.num ∷ vs) ps a new named.3 x entered.found entered.known) in
    let below = set sorts (num_of fs x) (Some (sort_of_binder fs s)) in (
      known_word fs ordinary x entered.found known,
      binder_word fs ordinary s h.0,
      words_guard 4 (normal fs a) (tree_words fs e.declared (e.num ∷ vs) ps a new ordinary named.3 grows below args h.1),
    )
tree_words fs ds vs ps (Bind2 q p ss a) new ordinary named grows sorts args h =
    let e = named.0 in
    let entered = predicate_enters ds p e named.1 in
    let known = grows p entered.found (named_grows e.declared vs (e.num ∷ ps) a new named.3 p entered.found entered.known) in
    let below = set args (num_of fs p) (Some (map (number_of fs) ss)) in (
      known_word fs ordinary p entered.found known,
      sort_words fs ordinary ss h.0,
      words_guard 4 (normal fs a) (tree_words fs e.declared vs (e.num ∷ ps) a new ordinary named.3 grows sorts below h.1),
    )
tree_words fs ds vs ps (Binary op l r) new ordinary named grows sorts args h =
    let middle : Grows named.0 fs = λ n f k. grows n f (named_grows named.0 vs ps r new named.2 n f k) in (
      words_guard (left op) (normal fs l) (tree_words fs ds vs ps l named.0 ordinary named.1 middle sorts args h.0),
      words_guard (right op) (normal fs r) (tree_words fs named.0 vs ps r new ordinary named.2 grows sorts args h.1),
    )
tree_words fs ds vs ps (Paren a) new ordinary named grows sorts args h = tree_words fs ds vs ps a new ordinary named grows sorts args h

declared_words : (ds fs : List Declaration) (d : Declared Text) (new : List Declaration) → are_ordinary fs ≡ true → NamedDeclared ds d new → right_one fs d ≡ true → AreWords_declared d
declared_words ds fs (DeclaredSort s) new ordinary h right = ordinary_word s (new_unknown ds s h.is_new).1
declared_words ds fs (DeclaredFun f ss r) new ordinary h right = (
  ordinary_word f (new_unknown ds f h.is_new).1,
  sort_words fs ordinary ss (and_first (list_all (is_sort fs) ss) _ right),
  sort_word fs ordinary r (and_second (list_all (is_sort fs) ss) _ right),
)
declared_words ds fs (DeclaredPred p ss) new ordinary h right = (ordinary_word p (new_unknown ds p h.is_new).1, sort_words fs ordinary ss right)
declared_words ds fs (DeclaredVar x s) new ordinary h right = (ordinary_word x (new_unknown ds x h.is_new).1, sort_word fs ordinary s right)

-- the names of the declarations that are printed
pub all_declared_words : (ds fs : List Declaration) (all : List (Declared Text)) (new : List Declaration) → are_ordinary fs ≡ true → AllNamedDeclared ds all new
    → list_all (right_one fs) all ≡ true → AreWords_all_declared all
all_declared_words ds fs [] new ordinary h right = tt
all_declared_words ds fs (d ∷ more) new ordinary h right = (
  declared_words ds fs d h.0 ordinary h.1 (and_first (right_one fs d) _ right),
  all_declared_words h.0 fs more new ordinary h.2 (and_second (right_one fs d) _ right),
)
