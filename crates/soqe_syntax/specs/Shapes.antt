-- The trees that the reader's values hold.
use Rattle.soqe_syntax.specs.declared.piece.Span.{Span}
use Rattle.soqe_syntax.specs.declared.shape.Expr.{Expr}
use Rattle.soqe_syntax.specs.declared.shape.Expr.TheVariants as expr
use Rattle.soqe_syntax.specs.declared.shape.Exprs.{Exprs}
use Rattle.soqe_syntax.specs.declared.shape.Exprs.TheVariants as exprs
use Rattle.soqe_syntax.specs.declared.shape.Shape.{Shape}
use Rattle.soqe_syntax.specs.declared.shape.Shape.TheVariants as shape
use Rattle.soqe_syntax.specs.declared.shape.Item.{Item}
use Rattle.soqe_syntax.specs.declared.shape.Item.TheVariants as item
use Rattle.soqe_syntax.specs.Grammar.{Term, Plain, Applied, Terms, One, More, Tree, Constant, Atom, Equation, Not, Bind, Bind2, Binary, Paren, Declared, DeclaredSort, DeclaredFun, DeclaredPred, DeclaredVar}

abbrev mutual
  -- the term of an expression
  pub term_view : Expr → Term Span
  term_view (expr.Plain x) = Plain x
  term_view (expr.Applied' x p ts) = Applied x (terms_view ts)

  pub terms_view : Exprs → Terms Span
  terms_view (exprs.One' p t) = One (term_view t)
  terms_view (exprs.More' p ts q t) = More (terms_view ts) (term_view t)

-- the tree of a shape
abbrev pub view : Shape → Tree Span
view (shape.Constant b) = Constant b
view (shape.Atom t) = Atom (term_view t.value)
view (shape.Equation e) = Equation e.value.negated e.value.sign (term_view e.value.left) (term_view e.value.right)
view (shape.Not' p a) = Not (view a)
view (shape.Bind' b p a) = Bind b.value.quantifier b.value.name b.value.sort (view a)
view (shape.Bind2' b p a) = Bind2 b.value.quantifier b.value.name b.value.sorts (view a)
view (shape.Binary' op p l q r) = Binary op (view l) (view r)
view (shape.Paren' p a) = Paren (view a)

-- the declaration of an item
abbrev pub declared_view : Item → Declared Span
declared_view (item.Sort s) = DeclaredSort s
declared_view (item.Fun f ss r) = DeclaredFun f ss r
declared_view (item.Pred p ss) = DeclaredPred p ss
declared_view (item.Var x s) = DeclaredVar x s
