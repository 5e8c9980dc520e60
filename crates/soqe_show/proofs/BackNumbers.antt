-- The formula of a tree of texts, by any look-up; a tree over places has the formula of its texts.
use Rattle.std.proofs.Common.{◌≡◌, ℕ, List, map, Option, Some, None, refl, ◌∙◌, ap}
use Rattle.soqe_syntax.specs.declared.piece.Span.{Span}
use Rattle.soqe_syntax.specs.Grammar.{Term, Plain, Applied, Terms, One, More, Tree, Constant, Atom, Equation, Not, Bind, Bind2, Binary, Paren}
use Rattle.soqe_syntax.specs.Pieces.{text_at}
use Rattle.soqe_term.specs.declared.term.Term as term
use Rattle.soqe_term.specs.declared.term.Terms as terms
use Rattle.soqe_signature.specs.Declarations.{Declaration}
use Rattle.soqe_form.specs.declared.form.Form as form
use Rattle.soqe_form.specs.Constants.{constant}
use Rattle.soqe_text.specs.Meanings.{Names, problem_names}
use Rattle.soqe_text.specs.Uses.{num_of_by}
use Rattle.soqe_text.specs.Numbering.{applied_by, numbered_term_by, numbered_terms_by, predicate, numbered_atom_by, negated, over_elements, numbered_by, joined_by, quantified_over}
use Rattle.soqe_show.specs.Printed.{Text}
use Rattle.soqe_show.specs.Placed.{texts_term, texts_terms, texts}
use Rattle.soqe_show.proofs.BackKnown.{number_of_by, numbers_of}
use Rattle.soqe_show.proofs.BackUses.{sort_of_binder_by}

abbrev mutual
  -- the term of an expression of texts
  pub term_of_by : {V P : Type 0} → Names V P → V → Term Text → term.Term
  term_of_by names vs (Plain x) = applied_by (names.symbol x) (names.sort_at vs) (names.find x) terms.Nil
  term_of_by names vs (Applied x ts) = applied_by (names.symbol x) (names.sort_at vs) (names.find x) (terms_of_by names vs ts terms.Nil)

  -- the terms of expressions, in front of further ones
  pub terms_of_by : {V P : Type 0} → Names V P → V → Terms Text → terms.Terms → terms.Terms
  terms_of_by names vs (One t) after = terms.Cons (term_of_by names vs t) after
  terms_of_by names vs (More ts t) after = terms_of_by names vs ts (terms.Cons (term_of_by names vs t) after)

-- the atom of an expression
abbrev pub atom_of_by : {V P : Type 0} → Names V P → V → Term Text → form.Form
atom_of_by names vs (Plain p) = form.Atom (predicate (names.find p)) terms.Nil
atom_of_by names vs (Applied p ts) = form.Atom (predicate (names.find p)) (terms_of_by names vs ts terms.Nil)

-- the formula of a tree
abbrev pub form_of_by : {V P : Type 0} → Names V P → V → Tree Text → form.Form
form_of_by names vs (Constant b) = constant b
form_of_by names vs (Atom t) = atom_of_by names vs t
form_of_by names vs (Equation b sign l r) = negated b (form.Equal (term_of_by names vs l) (term_of_by names vs r))
form_of_by names vs (Not a) = form.Not (form_of_by names vs a)
form_of_by names vs (Bind q x s a) =
    over_elements q (record { num = num_of_by names x; sort = sort_of_binder_by names s }) (form_of_by names (names.with_sort vs (num_of_by names x) (sort_of_binder_by names s)) a)
form_of_by names vs (Bind2 q p ss a) = quantified_over q (record { num = num_of_by names p; args = map (number_of_by names.find) ss }) (form_of_by names vs a)
form_of_by names vs (Binary op l r) = joined_by op (form_of_by names vs l) (form_of_by names vs r)
form_of_by names vs (Paren a) = form_of_by names vs a

-- ---- the same in a problem, by its declarations and names

-- the term of an expression of texts
abbrev pub term_of : List Declaration → List (Option ℕ) → Term Text → term.Term
term_of ds = term_of_by (problem_names ds)

-- the terms of expressions, in front of further ones
abbrev pub terms_of : List Declaration → List (Option ℕ) → Terms Text → terms.Terms → terms.Terms
terms_of ds = terms_of_by (problem_names ds)

-- the atom of an expression
abbrev pub atom_of : List Declaration → List (Option ℕ) → Term Text → form.Form
atom_of ds = atom_of_by (problem_names ds)

-- the formula of a tree
abbrev pub form_of : List Declaration → List (Option ℕ) → Tree Text → form.Form
form_of ds = form_of_by (problem_names ds)

-- ---- laws

mutual
  term_is : {V P : Type 0} (bytes : List ℕ) (names : Names V P) (vs : V) (t : Term Span) → numbered_term_by bytes names vs t ≡ term_of_by names vs (texts_term bytes t)
  term_is bytes names vs (Plain x) = refl
  term_is bytes names vs (Applied x ts) = ap (applied_by (names.symbol (text_at bytes x)) (names.sort_at vs) (names.find (text_at bytes x))) (terms_is bytes names vs ts terms.Nil)

  terms_is : {V P : Type 0} (bytes : List ℕ) (names : Names V P) (vs : V) (ts : Terms Span) (after : terms.Terms)
      → numbered_terms_by bytes names vs ts after ≡ terms_of_by names vs (texts_terms bytes ts) after
  terms_is bytes names vs (One t) after = ap (λ t. terms.Cons t after) (term_is bytes names vs t)
  terms_is bytes names vs (More ts t) after =
      terms_is bytes names vs ts (terms.Cons (numbered_term_by bytes names vs t) after)
      ∙ ap (λ t. terms_of_by names vs (texts_terms bytes ts) (terms.Cons t after)) (term_is bytes names vs t)

atom_is : {V P : Type 0} (bytes : List ℕ) (names : Names V P) (vs : V) (t : Term Span) → numbered_atom_by bytes names vs t ≡ atom_of_by names vs (texts_term bytes t)
atom_is bytes names vs (Plain p) = refl
atom_is bytes names vs (Applied p ts) = ap (form.Atom (predicate (names.find (text_at bytes p)))) (terms_is bytes names vs ts terms.Nil)

-- a tree over places is numbered as its texts are
pub form_is : {V P : Type 0} (bytes : List ℕ) (names : Names V P) (vs : V) (t : Tree Span) → numbered_by bytes names vs t ≡ form_of_by names vs (texts bytes t)
form_is bytes names vs (Constant b) = refl
form_is bytes names vs (Atom t) = atom_is bytes names vs t
form_is bytes names vs (Equation b at l r) = (λ i. negated b (form.Equal (term_is bytes names vs l i) (term_is bytes names vs r i)))
form_is bytes names vs (Not a) = ap form.Not (form_is bytes names vs a)
form_is bytes names vs (Bind q x None a) =
    ap (over_elements q (record { num = num_of_by names (text_at bytes x); sort = 0 })) (form_is bytes names (names.with_sort vs (num_of_by names (text_at bytes x)) 0) a)
form_is bytes names vs (Bind q x (Some s) a) =
    let sort = number_of_by names.find (text_at bytes s) in
    ap (over_elements q (record { num = num_of_by names (text_at bytes x); sort = sort })) (form_is bytes names (names.with_sort vs (num_of_by names (text_at bytes x)) sort) a)
form_is bytes names vs (Bind2 q p ss a) =
    (λ i. quantified_over q (record { num = num_of_by names (text_at bytes p); args = numbers_of bytes names.find ss i }) (form_is bytes names vs a i))
form_is bytes names vs (Binary op l r) = (λ i. joined_by op (form_is bytes names vs l i) (form_is bytes names vs r i))
form_is bytes names vs (Paren a) = form_is bytes names vs a
