-- What stands within negations and parentheses.
use Rattle.std.specs.Prelude.{ℕ, zero, suc, ◌+◌}
use Rattle.soqe_syntax.specs.declared.piece.Span.{Span}
use Rattle.soqe_syntax.specs.Grammar as syntax
use Rattle.soqe_form.specs.declared.form.Form.{Form, Not}

-- A tree is another one within so many negations, and within parentheses.
pub data Wraps : syntax.Tree Span → ℕ → syntax.Tree Span → Type 0 where
  bare : {t : syntax.Tree Span} → Wraps t 0 t
  negated : {t u : syntax.Tree Span} {n : ℕ} → Wraps t n (syntax.Not u) → Wraps t (n + 1) u
  parened : {t u : syntax.Tree Span} {n : ℕ} → Wraps t n (syntax.Paren u) → Wraps t n u

-- how many nodes a tree has above its atoms, which falls where one goes down
abbrev pub weight : syntax.Tree Span → ℕ
weight (syntax.Constant b) = 0
weight (syntax.Atom t) = 0
weight (syntax.Equation b at l r) = 0
weight (syntax.Not a) = suc (weight a)
weight (syntax.Bind q x s a) = suc (weight a)
weight (syntax.Bind2 q p ss a) = suc (weight a)
weight (syntax.Binary op l r) = suc (weight l + weight r)
weight (syntax.Paren a) = suc (weight a)

-- a formula within so many negations
abbrev pub negations : ℕ → Form → Form
negations zero f = f
negations (suc n) f = negations n (Not f)
