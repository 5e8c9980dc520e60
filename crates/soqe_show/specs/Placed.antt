-- Where the names of a printed tree stand in its text, and that the text has the shape of the tree.
use Rattle.std.specs.Prelude.{◌≡◌, ◌⊎◌, ℕ, ◌+◌, Bool, true, false, List, [], ◌∷◌, ◌++◌, length, map, Option, Some, None, codes}
use Rattle.soqe_lex.specs.declared.token.TokenKind.TheVariants.{Ordinary, Tagged}
use Rattle.soqe_lex.specs.Lexical.{kind_of}
use Rattle.soqe_syntax.specs.declared.piece.Span.{Span}
use Rattle.soqe_syntax.specs.Grammar.{Term, Plain, Applied, Terms, One, More, Tree, Constant, Atom, Equation, Not, Bind, Bind2, Binary, Paren, IsLevelled, Declared, DeclaredSort, DeclaredFun, DeclaredPred, DeclaredVar, Problem}
use Rattle.soqe_syntax.specs.Pieces.{HasProblem, text_at}
use Rattle.soqe_parse.specs.Formulas.{HasForm}
use Rattle.soqe_show.specs.Printed.{Text, term_text, terms_text, quantifier_text, quantifier2_text, operator_text, sort_text, sorts_text, tree_text, declared_text, all_declared_text, problem_tree_text}

-- ---- places

-- the offset behind a text that begins at the offset
abbrev pub behind : ℕ → Text → ℕ
behind at text = at + length text

-- the place of a text that begins at the offset
abbrev pub place : ℕ → Text → Span
place at text = record { start = at; end = behind at text }

abbrev mutual
  -- a printed term that begins at the offset, with the places of its names
  pub placed_term : ℕ → Term Text → Term Span
  placed_term at (Plain x) = Plain (place at x)
  placed_term at (Applied x ts) = Applied (place at x) (placed_terms (behind at (x ++ codes "(")) ts)

  -- printed terms, in the same way
  pub placed_terms : ℕ → Terms Text → Terms Span
  placed_terms at (One t) = One (placed_term at t)
  placed_terms at (More ts t) = More (placed_terms at ts) (placed_term (behind at (terms_text ts ++ codes ", ")) t)

-- the place of the sort behind a variable
abbrev pub placed_sort : ℕ → Option Text → Option Span
placed_sort at None = None
placed_sort at (Some s) = Some (place (behind at (codes ":")) s)

-- the places of texts behind the first of a list
abbrev pub placed_further : ℕ → List Text → List Span
placed_further at [] = []
placed_further at (s ∷ ss) = place (behind at (codes ", ")) s ∷ placed_further (behind at (codes ", " ++ s)) ss

-- the places of argument sorts
abbrev pub placed_sorts : ℕ → List Text → List Span
placed_sorts at [] = []
placed_sorts at (s ∷ ss) = place (behind at (codes "(")) s ∷ placed_further (behind at (codes "(" ++ s)) ss

-- a printed formula that begins at the offset, with the places of its names and of the signs of its equations
abbrev pub placed : ℕ → Tree Text → Tree Span
placed at (Constant b) = Constant b
placed at (Atom t) = Atom (placed_term at t)
placed at (Equation b sign l r) =
    Equation b (place (behind at (term_text l ++ codes " ")) sign) (placed_term at l) (placed_term (behind at (term_text l ++ codes " " ++ sign ++ codes " ")) r)
placed at (Not a) = Not (placed (behind at (codes "~")) a)
placed at (Bind q x s a) =
    Bind q (place (behind at (quantifier_text q)) x) (placed_sort (behind at (quantifier_text q ++ x)) s)
    (placed (behind at (quantifier_text q ++ x ++ sort_text s ++ codes ". ")) a)
placed at (Bind2 q x ss a) =
    Bind2 q (place (behind at (quantifier2_text q)) x) (placed_sorts (behind at (quantifier2_text q ++ x)) ss)
    (placed (behind at (quantifier2_text q ++ x ++ sorts_text ss ++ codes ". ")) a)
placed at (Binary op l r) = Binary op (placed at l) (placed (behind at (tree_text l ++ operator_text op)) r)
placed at (Paren a) = Paren (placed (behind at (codes "(")) a)

-- a printed declaration that begins at the offset, with the places of its names
abbrev pub placed_declared : ℕ → Declared Text → Declared Span
placed_declared at (DeclaredSort s) = DeclaredSort (place (behind at (codes "sort ")) s)
placed_declared at (DeclaredFun f ss r) =
    DeclaredFun (place (behind at (codes "fun ")) f) (placed_sorts (behind at (codes "fun " ++ f)) ss) (place (behind at (codes "fun " ++ f ++ sorts_text ss ++ codes ":")) r)
placed_declared at (DeclaredPred p ss) = DeclaredPred (place (behind at (codes "pred ")) p) (placed_sorts (behind at (codes "pred " ++ p)) ss)
placed_declared at (DeclaredVar x s) = DeclaredVar (place (behind at (codes "var ")) x) (place (behind at (codes "var " ++ x ++ codes ":")) s)

-- printed declarations, the first of which begins at the offset
abbrev pub placed_all_declared : ℕ → List (Declared Text) → List (Declared Span)
placed_all_declared at [] = []
placed_all_declared at (d ∷ ds) = placed_declared at d ∷ placed_all_declared (behind at (declared_text d)) ds

-- a printed problem, with the places of its names and of the signs of its equations
abbrev pub placed_problem : Problem Text → Problem Span
placed_problem p = record { declared = placed_all_declared 0 p.declared; goal = placed (behind 0 (all_declared_text p.declared ++ codes "goal ")) p.goal }

-- ---- names that are tokens

-- The text is one token, an ordinary or a tagged name.
abbrev pub IsWord : Text → Type 0
IsWord text = (kind_of text ≡ Some Ordinary) ⊎ (kind_of text ≡ Some Tagged)

-- the sign of an equation, or of a negated one
abbrev pub equation_sign : Bool → Text
equation_sign false = codes "="
equation_sign true = codes "!="

abbrev mutual
  -- Every name is a word.
  pub AreWords_term : Term Text → Type 0
  AreWords_term (Plain x) = IsWord x
  AreWords_term (Applied x ts) = IsWord x × AreWords_terms ts

  -- the same for terms
  pub AreWords_terms : Terms Text → Type 0
  AreWords_terms (One t) = AreWords_term t
  AreWords_terms (More ts t) = AreWords_terms ts × AreWords_term t

-- The sort is a word, if there is one.
abbrev pub AreWords_sort : Option Text → Type 0
AreWords_sort None = Unit {0}
AreWords_sort (Some s) = IsWord s

-- Every text of the list is a word.
abbrev pub AreWords_sorts : List Text → Type 0
AreWords_sorts [] = Unit {0}
AreWords_sorts (s ∷ ss) = IsWord s × AreWords_sorts ss

-- Every name of the formula is a word, and each equation has its sign.
abbrev pub AreWords : Tree Text → Type 0
AreWords (Constant b) = Unit {0}
AreWords (Atom t) = AreWords_term t
AreWords (Equation b sign l r) = (sign ≡ equation_sign b) × AreWords_term l × AreWords_term r
AreWords (Not a) = AreWords a
AreWords (Bind q x s a) = IsWord x × AreWords_sort s × AreWords a
AreWords (Bind2 q x ss a) = IsWord x × AreWords_sorts ss × AreWords a
AreWords (Binary op l r) = AreWords l × AreWords r
AreWords (Paren a) = AreWords a

-- Every name of the declaration is a word.
abbrev pub AreWords_declared : Declared Text → Type 0
AreWords_declared (DeclaredSort s) = IsWord s
AreWords_declared (DeclaredFun f ss r) = IsWord f × AreWords_sorts ss × IsWord r
AreWords_declared (DeclaredPred p ss) = IsWord p × AreWords_sorts ss
AreWords_declared (DeclaredVar x s) = IsWord x × IsWord s

-- Every name of the declarations is a word.
abbrev pub AreWords_all_declared : List (Declared Text) → Type 0
AreWords_all_declared [] = Unit {0}
AreWords_all_declared (d ∷ ds) = AreWords_declared d × AreWords_all_declared ds

-- Every name of the problem is a word, and each equation has its sign.
abbrev pub AreWords_problem : Problem Text → Type 0
AreWords_problem p = AreWords_all_declared p.declared × AreWords p.goal

-- ---- the texts at places

abbrev mutual
  -- a term, with the text at each place
  pub texts_term : List ℕ → Term Span → Term Text
  texts_term bytes (Plain x) = Plain (text_at bytes x)
  texts_term bytes (Applied x ts) = Applied (text_at bytes x) (texts_terms bytes ts)

  -- terms, with the text at each place
  pub texts_terms : List ℕ → Terms Span → Terms Text
  texts_terms bytes (One t) = One (texts_term bytes t)
  texts_terms bytes (More ts t) = More (texts_terms bytes ts) (texts_term bytes t)

-- a sort, if there is one, with the text at its place
abbrev pub texts_sort : List ℕ → Option Span → Option Text
texts_sort bytes None = None
texts_sort bytes (Some s) = Some (text_at bytes s)

-- a formula, with the text at each place
abbrev pub texts : List ℕ → Tree Span → Tree Text
texts bytes (Constant b) = Constant b
texts bytes (Atom t) = Atom (texts_term bytes t)
texts bytes (Equation b sign l r) = Equation b (text_at bytes sign) (texts_term bytes l) (texts_term bytes r)
texts bytes (Not a) = Not (texts bytes a)
texts bytes (Bind q x s a) = Bind q (text_at bytes x) (texts_sort bytes s) (texts bytes a)
texts bytes (Bind2 q x ss a) = Bind2 q (text_at bytes x) (map (text_at bytes) ss) (texts bytes a)
texts bytes (Binary op l r) = Binary op (texts bytes l) (texts bytes r)
texts bytes (Paren a) = Paren (texts bytes a)

-- a declaration, with the text at each place
abbrev pub texts_declared : List ℕ → Declared Span → Declared Text
texts_declared bytes (DeclaredSort s) = DeclaredSort (text_at bytes s)
texts_declared bytes (DeclaredFun f ss r) = DeclaredFun (text_at bytes f) (map (text_at bytes) ss) (text_at bytes r)
texts_declared bytes (DeclaredPred p ss) = DeclaredPred (text_at bytes p) (map (text_at bytes) ss)
texts_declared bytes (DeclaredVar x s) = DeclaredVar (text_at bytes x) (text_at bytes s)

-- a problem, with the text at each place
abbrev pub texts_problem : List ℕ → Problem Span → Problem Text
texts_problem bytes p = record { declared = map (texts_declared bytes) p.declared; goal = texts bytes p.goal }

-- ---- laws

-- A printed formula has its own shape, each name where its text was written.
abbrev pub FormulaHasShape : Type 0
FormulaHasShape = (t : Tree Text) → AreWords t → IsLevelled t → HasForm (tree_text t) (placed 0 t)

-- In a printed formula each name stands at its place.
abbrev pub FormulaHasTexts : Type 0
FormulaHasTexts = (t : Tree Text) → texts (tree_text t) (placed 0 t) ≡ t

-- A printed problem has its own shape, each name where its text was written.
abbrev pub ProblemHasShape : Type 0
ProblemHasShape = (p : Problem Text) → AreWords_problem p → IsLevelled p.goal → HasProblem (problem_tree_text p) (placed_problem p)

-- In a printed problem each name stands at its place.
abbrev pub ProblemHasTexts : Type 0
ProblemHasTexts = (p : Problem Text) → texts_problem (problem_tree_text p) (placed_problem p) ≡ p
