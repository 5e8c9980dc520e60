-- The tree that a value is printed as: names for numbers, and parentheses exactly where an operand is looser than its place.
use Rattle.std.specs.Prelude.{ℕ, true, false, cond, nat_lt, eqb, List, [], ◌∷◌, ◌++◌, Option, Some, None, codes, map}
use Rattle.std.specs.Fmt.{decimal}
use Rattle.soqe_syntax.specs.declared.piece.Quantifier.TheVariants as quantifier
use Rattle.soqe_syntax.specs.declared.piece.Operator.TheVariants as operator
use Rattle.soqe_syntax.specs.Grammar as tree
use Rattle.soqe_syntax.specs.Grammar.{Tree, level, left, right}
use Rattle.soqe_term.specs.declared.term.Sym.{Sym}
use Rattle.soqe_term.specs.declared.term.Sym.TheVariants.{Fun, Skolem}
use Rattle.soqe_term.specs.declared.term.Term.{Term, Var as var, App}
use Rattle.soqe_term.specs.declared.term.Terms.{Terms, Nil, Cons', end_of-Term as end-t, more_of-Term as one-t, end_of-Terms as ends-t, more_of-Terms as ones-t}
use Rattle.soqe_signature.specs.declared.kinds.Kind.TheVariants as kind
use Rattle.soqe_signature.specs.declared.kinds.NameKind.TheVariants as numbering
use Rattle.soqe_signature.specs.Declarations.{Declaration, name_of}
use Rattle.soqe_form.specs.declared.form.Pred.{Pred}
use Rattle.soqe_form.specs.declared.form.Pred.TheVariants.{Decl, Bound}
use Rattle.soqe_form.specs.declared.form.Form.{Form, True, False, Equal, Atom, Not', And', Or', Imp', Iff', All', Ex', All2', Ex2', end_of-Form as end, more_of-Form as one}
use Rattle.soqe_text.specs.declared.problem.Problem.{Problem}
use Rattle.soqe_text.specs.declared.problem.Problem.TheVariants as problem
use Rattle.soqe_show.specs.Printed.{Text, tree_text, problem_tree_text}

-- a name, or else a tag with the number
abbrev pub name_or : Option Text → Text → ℕ → Text
name_or (Some name) tag n = name
name_or None tag n = tag ++ decimal n

-- a sort by its number
abbrev pub sort_name : List Declaration → ℕ → Text
sort_name ds n = name_or (name_of ds numbering.Sort n) [] n

-- a variable by its number, with the tag _ where no name has it
abbrev pub var_name : List Declaration → ℕ → Text
var_name ds n = name_or (name_of ds numbering.Variable n) (codes "_") n

-- a function by its number, with the tag _f for a Skolem function
abbrev pub sym_name : List Declaration → Sym → Text
sym_name ds (Fun n) = name_or (name_of ds numbering.Fun n) [] n
sym_name ds (Skolem n) = codes "_f" ++ decimal n

-- a predicate by its number, with the tag _p for a bound one without a name
abbrev pub pred_name : List Declaration → Pred → Text
pred_name ds (Decl n) = name_or (name_of ds numbering.Pred n) [] n
pred_name ds (Bound n) = name_or (name_of ds numbering.BoundPred n) (codes "_p") n

-- a name with arguments, without parentheses where there are none
abbrev pub applied : Text → Option (tree.Terms Text) → tree.Term Text
applied name None = tree.Plain name
applied name (Some ts) = tree.Applied name ts

-- terms behind those that stand already
abbrev pub onto : Option (tree.Terms Text) → tree.Term Text → Option (tree.Terms Text)
onto None t = Some (tree.One t)
onto (Some ts) t = Some (tree.More ts t)

abbrev mutual
  -- the tree of a term
  pub dress_term : List Declaration → Term → tree.Term Text
  dress_term ds (var x) = tree.Plain (var_name ds x.num)
  dress_term ds (App f s ts) = applied (sym_name ds f) (dress_terms_onto ds None ts)

  -- the trees of terms, behind those that stand already
  pub dress_terms_onto : List Declaration → Option (tree.Terms Text) → Terms → Option (tree.Terms Text)
  dress_terms_onto ds before Nil = before
  dress_terms_onto ds before (Cons' _ (one-t t end-t) _ (ones-t ts ends-t)) = dress_terms_onto ds (onto before (dress_term ds t)) ts

-- in parentheses exactly where the tree is looser than k
abbrev pub guard : ℕ → Tree Text → Tree Text
guard k t = cond (nat_lt (level t) k) (tree.Paren t) t

-- a negation; that of an equation is written with `!=`
abbrev pub negated : Tree Text → Tree Text
negated (tree.Equation false sign l r) = tree.Equation true (codes "!=") l r
negated a = tree.Not (guard 4 a)

-- a sort that is written: `obj`, which has the number 0, is not
abbrev pub written_sort : List Declaration → ℕ → Option Text
written_sort ds s = cond (eqb s 0) None (Some (sort_name ds s))

-- the tree of a formula
abbrev pub dress : List Declaration → Form → Tree Text
dress ds True = tree.Constant true
dress ds False = tree.Constant false
dress ds (Equal s t) = tree.Equation false (codes "=") (dress_term ds s) (dress_term ds t)
dress ds (Atom p ts) = tree.Atom (applied (pred_name ds p) (dress_terms_onto ds None ts))
dress ds (Not' _ (one f end)) = negated (dress ds f)
dress ds (And' _ (one f end) _ (one g end)) = tree.Binary operator.And (guard (left operator.And) (dress ds f)) (guard (right operator.And) (dress ds g))
dress ds (Or' _ (one f end) _ (one g end)) = tree.Binary operator.Or (guard (left operator.Or) (dress ds f)) (guard (right operator.Or) (dress ds g))
dress ds (Imp' _ (one f end) _ (one g end)) = tree.Binary operator.Imp (guard (left operator.Imp) (dress ds f)) (guard (right operator.Imp) (dress ds g))
dress ds (Iff' _ (one f end) _ (one g end)) = tree.Binary operator.Iff (guard (left operator.Iff) (dress ds f)) (guard (right operator.Iff) (dress ds g))
dress ds (All' x _ (one f end)) = tree.Bind quantifier.All (var_name ds x.num) (written_sort ds x.sort) (guard 4 (dress ds f))
dress ds (Ex' x _ (one f end)) = tree.Bind quantifier.Ex (var_name ds x.num) (written_sort ds x.sort) (guard 4 (dress ds f))
dress ds (All2' p _ (one f end)) = tree.Bind2 quantifier.All (pred_name ds (Bound p.num)) (map (sort_name ds) p.args) (guard 4 (dress ds f))
dress ds (Ex2' p _ (one f end)) = tree.Bind2 quantifier.Ex (pred_name ds (Bound p.num)) (map (sort_name ds) p.args) (guard 4 (dress ds f))

-- the printed text of a formula
abbrev pub form_text : List Declaration → Form → Text
form_text ds f = tree_text (dress ds f)

-- a declaration as it is written; names of bound variables and predicates are not declared in a text
abbrev pub dress_declared : List Declaration → Declaration → List (tree.Declared Text)
dress_declared ds d = elim d.kind [
  | kind.Sort ↦ tree.DeclaredSort d.name ∷ []
  | kind.Fun args result ↦ tree.DeclaredFun d.name (map (sort_name ds) args) (sort_name ds result) ∷ []
  | kind.Pred args ↦ tree.DeclaredPred d.name (map (sort_name ds) args) ∷ []
  | kind.Free sort ↦ tree.DeclaredVar d.name (sort_name ds sort) ∷ []
  | kind.Rel ↦ []
  | kind.Prop ↦ []
  | kind.VarName ↦ []
  | kind.PredName ↦ []
]

-- declarations as they are written, in order
abbrev pub dress_all_declared : List Declaration → List Declaration → List (tree.Declared Text)
dress_all_declared ds [] = []
dress_all_declared ds (d ∷ more) = dress_declared ds d ++ dress_all_declared ds more

-- all declarations but the first, which is that of `obj`
abbrev pub behind_obj : List Declaration → List Declaration
behind_obj [] = []
behind_obj (d ∷ ds) = ds

-- the tree of a problem
abbrev pub dress_problem : Problem → tree.Problem Text
dress_problem (problem.Elim ds goal) = record { declared = dress_all_declared ds (behind_obj ds); goal = dress ds goal }

-- the printed text of a problem, each declaration and the goal on a line
abbrev pub problem_text : Problem → Text
problem_text p = problem_tree_text (dress_problem p)
