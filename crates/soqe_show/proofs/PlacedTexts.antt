-- At the places of a printed tree stand its texts.
use Rattle.std.proofs.Common.{◌≡◌, ℕ, ◌+◌, ◌-◌, Bool, List, [], ◌∷◌, ◌++◌, length, take, drop, map, Option, Some, None, codes, refl, sym, ap, ap₂, ◌∙◌, arith, append_assoc, append-nil}
use Rattle.std.proofs.lemmas.List.{drop-drop}
use Rattle.std.proofs.Math.Seq.{drop-append_seam, take-append_seam}
use Rattle.soqe_syntax.specs.Grammar.{Term, Plain, Applied, Terms, One, More, Tree, Constant, Atom, Equation, Not, Bind, Bind2, Binary, Paren, Declared, DeclaredSort, DeclaredFun, DeclaredPred, DeclaredVar, Problem}
use Rattle.soqe_syntax.specs.Pieces.{text_at}
use Rattle.soqe_show.specs.Printed.{Text, term_text, terms_text, quantifier_text, quantifier2_text, operator_text, sort_text, further_text, sorts_text, tree_text, declared_text, all_declared_text, problem_tree_text}
use Rattle.soqe_show.specs.Placed.{behind, place, placed_term, placed_terms, placed_sort, placed_further, placed_sorts, placed, placed_declared, placed_all_declared, placed_problem, texts_term, texts_terms, texts_sort, texts, texts_declared, texts_problem}

-- the bytes have the text at the offset
record StandsAt (bytes : List ℕ) (at : ℕ) (text : Text) : Type 0 where
  rest : List ℕ
  there : drop at bytes ≡ text ++ rest

module _ (bytes : List ℕ) where
  front : {at : ℕ} (a b : Text) → StandsAt bytes at (a ++ b) → StandsAt bytes at a
  front a b h = record { rest = b ++ h.rest; there = h.there ∙ append_assoc a b h.rest }

  back : {at : ℕ} (a b : Text) → StandsAt bytes at (a ++ b) → StandsAt bytes (behind at a) b
  back {at = at} a b h = record {
    rest = h.rest;
    there = sym (drop-drop (length a) at bytes) ∙ ap (drop (length a)) (h.there ∙ append_assoc a b h.rest) ∙ drop-append_seam a (b ++ h.rest);
  }

  at_place : (at : ℕ) (text : Text) → StandsAt bytes at text → text_at bytes (place at text) ≡ text
  at_place at text h =
      let n : (at + length text) - at ≡ length text = omega arith in
      ap₂ take n h.there ∙ take-append_seam text h.rest

  mutual
    term-texts : (at : ℕ) (t : Term Text) → StandsAt bytes at (term_text t) → texts_term bytes (placed_term at t) ≡ t
    term-texts at (Plain x) h = ap (λ (y : Text). Plain y) (at_place at x h)
    term-texts at (Applied x ts) h =
        let inner = front (x ++ codes "(" ++ terms_text ts) (codes ")") h in
        ap₂ (λ (y : Text) (us : Terms Text). Applied y us)
        (at_place at x (front x (codes "(") (front (x ++ codes "(") (terms_text ts) inner)))
        (terms-texts (behind at (x ++ codes "(")) ts (back (x ++ codes "(") (terms_text ts) inner))

    terms-texts : (at : ℕ) (ts : Terms Text) → StandsAt bytes at (terms_text ts) → texts_terms bytes (placed_terms at ts) ≡ ts
    terms-texts at (One t) h = ap (λ (u : Term Text). One u) (term-texts at t h)
    terms-texts at (More ts t) h =
        ap₂ (λ (us : Terms Text) (u : Term Text). More us u)
        (terms-texts at ts (front (terms_text ts) (codes ", ") (front (terms_text ts ++ codes ", ") (term_text t) h)))
        (term-texts (behind at (terms_text ts ++ codes ", ")) t (back (terms_text ts ++ codes ", ") (term_text t) h))

  sort-texts : (at : ℕ) (s : Option Text) → StandsAt bytes at (sort_text s) → texts_sort bytes (placed_sort at s) ≡ s
  sort-texts at None h = refl
  sort-texts at (Some s) h = ap (λ (x : Text). Some x) (at_place (behind at (codes ":")) s (back (codes ":") s h))

  further-texts : (at : ℕ) (ss : List Text) → StandsAt bytes at (further_text ss) → map (text_at bytes) (placed_further at ss) ≡ ss
  further-texts at [] h = refl
  further-texts at (s ∷ ss) h =
      ap₂ (λ (x : Text) (xs : List Text). x ∷ xs)
      (at_place (behind at (codes ", ")) s (back (codes ", ") s (front (codes ", " ++ s) (further_text ss) h)))
      (further-texts (behind at (codes ", " ++ s)) ss (back (codes ", " ++ s) (further_text ss) h))

  sorts-texts : (at : ℕ) (ss : List Text) → StandsAt bytes at (sorts_text ss) → map (text_at bytes) (placed_sorts at ss) ≡ ss
  sorts-texts at [] h = refl
  sorts-texts at (s ∷ ss) h =
      let inner = front (codes "(" ++ s ++ further_text ss) (codes ")") h in
      ap₂ (λ (x : Text) (xs : List Text). x ∷ xs)
      (at_place (behind at (codes "(")) s (back (codes "(") s (front (codes "(" ++ s) (further_text ss) inner)))
      (further-texts (behind at (codes "(" ++ s)) ss (back (codes "(" ++ s) (further_text ss) inner))

  equation-texts : (at : ℕ) (b : Bool) (sign : Text) (l r : Term Text) → StandsAt bytes at (tree_text (Equation b sign l r))
      → texts bytes (placed at (Equation b sign l r)) ≡ Equation b sign l r
  equation-texts at b sign l r h =
      let four = front (term_text l ++ codes " " ++ sign ++ codes " ") (term_text r) h in
      let three = front (term_text l ++ codes " " ++ sign) (codes " ") four in
      let two = front (term_text l ++ codes " ") sign three in
      let e = at_place (behind at (term_text l ++ codes " ")) sign (back (term_text l ++ codes " ") sign three) in
      let f = term-texts at l (front (term_text l) (codes " ") two) in
      let g = term-texts (behind at (term_text l ++ codes " " ++ sign ++ codes " ")) r (back (term_text l ++ codes " " ++ sign ++ codes " ") (term_text r) h) in
      cc

  -- a binder: its word, a name, a text of sorts, a dot, and the body
  module _ (at : ℕ) (word x sorts : Text) (body : Text) (h : StandsAt bytes at (word ++ x ++ sorts ++ codes ". " ++ body)) where
    binder-sorts : StandsAt bytes at (word ++ x ++ sorts)
    binder-sorts = front (word ++ x ++ sorts) (codes ". ") (front (word ++ x ++ sorts ++ codes ". ") body h)

    binder-name : StandsAt bytes (behind at word) x
    binder-name = back word x (front (word ++ x) sorts binder-sorts)

    binder-body : StandsAt bytes (behind at (word ++ x ++ sorts ++ codes ". ")) body
    binder-body = back (word ++ x ++ sorts ++ codes ". ") body h

  tree-texts : (at : ℕ) (t : Tree Text) → StandsAt bytes at (tree_text t) → texts bytes (placed at t) ≡ t
  tree-texts at (Constant b) h = refl
  tree-texts at (Atom t) h = ap (λ (u : Term Text). Atom u) (term-texts at t h)
  tree-texts at (Equation b sign l r) h = equation-texts at b sign l r h
  tree-texts at (Not a) h = ap (λ (u : Tree Text). Not u) (tree-texts (behind at (codes "~")) a (back (codes "~") (tree_text a) h))
  tree-texts at (Bind q x s a) h =
      let word = quantifier_text q in
      let e = at_place (behind at word) x (binder-name at word x (sort_text s) (tree_text a) h) in
      let f = sort-texts (behind at (word ++ x)) s (back (word ++ x) (sort_text s) (binder-sorts at word x (sort_text s) (tree_text a) h)) in
      let g = tree-texts (behind at (word ++ x ++ sort_text s ++ codes ". ")) a (binder-body at word x (sort_text s) (tree_text a) h) in
      cc
  tree-texts at (Bind2 q x ss a) h =
      let word = quantifier2_text q in
      let e = at_place (behind at word) x (binder-name at word x (sorts_text ss) (tree_text a) h) in
      let f = sorts-texts (behind at (word ++ x)) ss (back (word ++ x) (sorts_text ss) (binder-sorts at word x (sorts_text ss) (tree_text a) h)) in
      let g = tree-texts (behind at (word ++ x ++ sorts_text ss ++ codes ". ")) a (binder-body at word x (sorts_text ss) (tree_text a) h) in
      cc
  tree-texts at (Binary op l r) h =
      ap₂ (λ (u v : Tree Text). Binary op u v)
      (tree-texts at l (front (tree_text l) (operator_text op) (front (tree_text l ++ operator_text op) (tree_text r) h)))
      (tree-texts (behind at (tree_text l ++ operator_text op)) r (back (tree_text l ++ operator_text op) (tree_text r) h))
  tree-texts at (Paren a) h =
      ap (λ (u : Tree Text). Paren u) (tree-texts (behind at (codes "(")) a (back (codes "(") (tree_text a) (front (codes "(" ++ tree_text a) (codes ")") h)))

  declared-texts : (at : ℕ) (d : Declared Text) → StandsAt bytes at (declared_text d) → texts_declared bytes (placed_declared at d) ≡ d
  declared-texts at (DeclaredSort s) h = ap (λ (x : Text). DeclaredSort x) (at_place (behind at (codes "sort ")) s (back (codes "sort ") s (front (codes "sort " ++ s) (codes ";\n") h)))
  declared-texts at (DeclaredFun f ss r) h =
      let four = front (codes "fun " ++ f ++ sorts_text ss ++ codes ":" ++ r) (codes ";\n") h in
      let three = front (codes "fun " ++ f ++ sorts_text ss ++ codes ":") r four in
      let two = front (codes "fun " ++ f ++ sorts_text ss) (codes ":") three in
      let e = at_place (behind at (codes "fun ")) f (back (codes "fun ") f (front (codes "fun " ++ f) (sorts_text ss) two)) in
      let g = sorts-texts (behind at (codes "fun " ++ f)) ss (back (codes "fun " ++ f) (sorts_text ss) two) in
      let i = at_place (behind at (codes "fun " ++ f ++ sorts_text ss ++ codes ":")) r (back (codes "fun " ++ f ++ sorts_text ss ++ codes ":") r four) in
      cc
  declared-texts at (DeclaredPred p ss) h =
      let two = front (codes "pred " ++ p ++ sorts_text ss) (codes ";\n") h in
      ap₂ (λ (x : Text) (xs : List Text). DeclaredPred x xs)
      (at_place (behind at (codes "pred ")) p (back (codes "pred ") p (front (codes "pred " ++ p) (sorts_text ss) two)))
      (sorts-texts (behind at (codes "pred " ++ p)) ss (back (codes "pred " ++ p) (sorts_text ss) two))
  declared-texts at (DeclaredVar x s) h =
      let three = front (codes "var " ++ x ++ codes ":" ++ s) (codes ";\n") h in
      let two = front (codes "var " ++ x ++ codes ":") s three in
      ap₂ (λ (y z : Text). DeclaredVar y z)
      (at_place (behind at (codes "var ")) x (back (codes "var ") x (front (codes "var " ++ x) (codes ":") two)))
      (at_place (behind at (codes "var " ++ x ++ codes ":")) s (back (codes "var " ++ x ++ codes ":") s three))

  all_declared-texts : (at : ℕ) (ds : List (Declared Text)) → StandsAt bytes at (all_declared_text ds) → map (texts_declared bytes) (placed_all_declared at ds) ≡ ds
  all_declared-texts at [] h = refl
  all_declared-texts at (d ∷ ds) h =
      ap₂ (λ (x : Declared Text) (xs : List (Declared Text)). x ∷ xs)
      (declared-texts at d (front (declared_text d) (all_declared_text ds) h))
      (all_declared-texts (behind at (declared_text d)) ds (back (declared_text d) (all_declared_text ds) h))

stands-whole : (text : Text) → StandsAt text 0 text
stands-whole text = record { rest = []; there = sym (append-nil text) }

pub formula_has_texts : (t : Tree Text) → texts (tree_text t) (placed 0 t) ≡ t
formula_has_texts t = tree-texts (tree_text t) 0 t (stands-whole (tree_text t))

pub problem_has_texts : (p : Problem Text) → texts_problem (problem_tree_text p) (placed_problem p) ≡ p
problem_has_texts p =
    let text = problem_tree_text p in
    let ds = all_declared_text p.declared in
    let three = front text (ds ++ codes "goal " ++ tree_text p.goal) (codes ";\n") (stands-whole text) in
    ap₂ (λ (xs : List (Declared Text)) (a : Tree Text). record { declared = xs; goal = a })
    (all_declared-texts text 0 p.declared (front text ds (codes "goal ") (front text (ds ++ codes "goal ") (tree_text p.goal) three)))
    (tree-texts text (behind 0 (ds ++ codes "goal ")) p.goal (back text (ds ++ codes "goal ") (tree_text p.goal) three))
