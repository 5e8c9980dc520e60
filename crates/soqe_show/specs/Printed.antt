-- The text of a tree whose names are texts.
use Rattle.std.specs.Prelude.{ℕ, Bool, true, false, List, [], ◌∷◌, ◌++◌, Option, Some, None, codes}
use Rattle.soqe_syntax.specs.declared.piece.Quantifier.{Quantifier}
use Rattle.soqe_syntax.specs.declared.piece.Quantifier.TheVariants as quantifier
use Rattle.soqe_syntax.specs.declared.piece.Operator.{Operator}
use Rattle.soqe_syntax.specs.declared.piece.Operator.TheVariants as operator
use Rattle.soqe_syntax.specs.Grammar.{Term, Plain, Applied, Terms, One, More, Tree, Constant, Atom, Equation, Not, Bind, Bind2, Binary, Paren, Declared, DeclaredSort, DeclaredFun, DeclaredPred, DeclaredVar, Problem}

-- texts as bytes
abbrev pub Text : Type 0
Text = List ℕ

abbrev mutual
  -- a term: one space behind each comma
  pub term_text : Term Text → Text
  term_text (Plain x) = x
  term_text (Applied x ts) = x ++ codes "(" ++ terms_text ts ++ codes ")"

  -- terms, with a comma between two
  pub terms_text : Terms Text → Text
  terms_text (One t) = term_text t
  terms_text (More ts t) = terms_text ts ++ codes ", " ++ term_text t

-- a truth value
abbrev pub constant_text : Bool → Text
constant_text true = codes "true"
constant_text false = codes "false"

-- the word of a quantifier of variables
abbrev pub quantifier_text : Quantifier → Text
quantifier_text quantifier.All = codes "all "
quantifier_text quantifier.Ex = codes "ex "

-- the word of a quantifier of predicates
abbrev pub quantifier2_text : Quantifier → Text
quantifier2_text quantifier.All = codes "all2 "
quantifier2_text quantifier.Ex = codes "ex2 "

-- a sign between two operands, with one space on both sides
abbrev pub operator_text : Operator → Text
operator_text operator.And = codes " & "
operator_text operator.Or = codes " | "
operator_text operator.Imp = codes " -> "
operator_text operator.Iff = codes " <-> "

-- the sort behind a variable
abbrev pub sort_text : Option Text → Text
sort_text None = []
sort_text (Some s) = codes ":" ++ s

-- texts behind the first of a list
abbrev pub further_text : List Text → Text
further_text [] = []
further_text (s ∷ ss) = codes ", " ++ s ++ further_text ss

-- argument sorts, without parentheses where there are none
abbrev pub sorts_text : List Text → Text
sorts_text [] = []
sorts_text (s ∷ ss) = codes "(" ++ s ++ further_text ss ++ codes ")"

-- a formula
abbrev pub tree_text : Tree Text → Text
tree_text (Constant b) = constant_text b
tree_text (Atom t) = term_text t
tree_text (Equation b sign l r) = term_text l ++ codes " " ++ sign ++ codes " " ++ term_text r
tree_text (Not a) = codes "~" ++ tree_text a
tree_text (Bind q x s a) = quantifier_text q ++ x ++ sort_text s ++ codes ". " ++ tree_text a
tree_text (Bind2 q x ss a) = quantifier2_text q ++ x ++ sorts_text ss ++ codes ". " ++ tree_text a
tree_text (Binary op l r) = tree_text l ++ operator_text op ++ tree_text r
tree_text (Paren a) = codes "(" ++ tree_text a ++ codes ")"

-- a declaration, on one line
abbrev pub declared_text : Declared Text → Text
declared_text (DeclaredSort s) = codes "sort " ++ s ++ codes ";\n"
declared_text (DeclaredFun f ss r) = codes "fun " ++ f ++ sorts_text ss ++ codes ":" ++ r ++ codes ";\n"
declared_text (DeclaredPred p ss) = codes "pred " ++ p ++ sorts_text ss ++ codes ";\n"
declared_text (DeclaredVar x s) = codes "var " ++ x ++ codes ":" ++ s ++ codes ";\n"

-- declarations, each on its line
abbrev pub all_declared_text : List (Declared Text) → Text
all_declared_text [] = []
all_declared_text (d ∷ ds) = declared_text d ++ all_declared_text ds

-- a problem: its declarations, and its goal on the last line
abbrev pub problem_tree_text : Problem Text → Text
problem_tree_text p = all_declared_text p.declared ++ codes "goal " ++ tree_text p.goal ++ codes ";\n"
