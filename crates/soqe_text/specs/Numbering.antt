-- The formula of a tree whose names are known and used rightly. A name that stands for nothing there is counted as number 0;
-- no such tree has one.
use Rattle.std.specs.Prelude.{ℕ, Bool, true, false, List, Option, Some, None, get_or}
use Rattle.soqe_syntax.specs.declared.piece.Span.{Span}
use Rattle.soqe_syntax.specs.declared.piece.Quantifier.{Quantifier}
use Rattle.soqe_syntax.specs.declared.piece.Quantifier.TheVariants as quantifier
use Rattle.soqe_syntax.specs.declared.piece.Operator.{Operator}
use Rattle.soqe_syntax.specs.declared.piece.Operator.TheVariants as operator
use Rattle.soqe_syntax.specs.Grammar as syntax
use Rattle.soqe_syntax.specs.Pieces.{text_at}
use Rattle.soqe_term.specs.declared.term.Sym.{Sym}
use Rattle.soqe_term.specs.declared.term.Sym.TheVariants.{Fun}
use Rattle.soqe_term.specs.declared.term.Var.{Var}
use Rattle.soqe_term.specs.declared.term.Term.{Term, Var as var, App}
use Rattle.soqe_term.specs.declared.term.Terms.{Terms, Nil, Cons}
use Rattle.soqe_signature.specs.declared.kinds.Kind.TheVariants as kind
use Rattle.soqe_signature.specs.Declarations.{Declaration, Found}
use Rattle.soqe_form.specs.declared.form.Pred.{Pred}
use Rattle.soqe_form.specs.declared.form.Pred.TheVariants.{Decl, Bound}
use Rattle.soqe_form.specs.declared.form.PVar.{PVar}
use Rattle.soqe_form.specs.declared.form.Form.{Form, Equal, Atom, Not, And, Or, Imp, Iff, All, Ex, All2, Ex2}
use Rattle.soqe_form.specs.Constants.{constant}
use Rattle.soqe_text.specs.Meanings.{Names, problem_names}
use Rattle.soqe_text.specs.Naming.{sort_numbers_by}
use Rattle.soqe_text.specs.Uses.{num_of_by, binder_sort_by}

-- a sort, that of `obj` where it is not known
abbrev pub sort_or_obj : Option ℕ → ℕ
sort_or_obj None = 0
sort_or_obj (Some s) = s

-- the variable with a number, of the sort that is known
abbrev pub variable_of : ℕ → Option ℕ → Term
variable_of n s = var (record { num = n; sort = sort_or_obj s })

-- the term with a head and arguments
abbrev pub applied_by : (ℕ → Sym) → (ℕ → Option ℕ) → Option Found → Terms → Term
applied_by symbol vs None ts = var (record { num = 0; sort = 0 })
applied_by symbol vs (Some f) ts = elim f.kind [ kind.Fun args result ↦ App (symbol f.num) result ts | _ ↦ variable_of f.num (vs f.num) ]

abbrev mutual
  -- the term of an expression
  pub numbered_term_by : {V P : Type 0} → List ℕ → Names V P → V → syntax.Term Span → Term
  numbered_term_by bytes names vs (syntax.Plain x) = applied_by (names.symbol (text_at bytes x)) (names.sort_at vs) (names.find (text_at bytes x)) Nil
  numbered_term_by bytes names vs (syntax.Applied x ts) = applied_by (names.symbol (text_at bytes x)) (names.sort_at vs) (names.find (text_at bytes x)) (numbered_terms_by bytes names vs ts Nil)

  -- the terms of expressions, in front of further ones
  pub numbered_terms_by : {V P : Type 0} → List ℕ → Names V P → V → syntax.Terms Span → Terms → Terms
  numbered_terms_by bytes names vs (syntax.One t) after = Cons (numbered_term_by bytes names vs t) after
  numbered_terms_by bytes names vs (syntax.More ts t) after = numbered_terms_by bytes names vs ts (Cons (numbered_term_by bytes names vs t) after)

-- the predicate with a name
abbrev pub predicate : Option Found → Pred
predicate None = Decl 0
predicate (Some f) = elim f.kind [ kind.PredName ↦ Bound f.num | kind.Pred args ↦ Decl f.num | _ ↦ Decl 0 ]

-- the atom of an expression
abbrev pub numbered_atom_by : {V P : Type 0} → List ℕ → Names V P → V → syntax.Term Span → Form
numbered_atom_by bytes names vs (syntax.Plain p) = Atom (predicate (names.find (text_at bytes p))) Nil
numbered_atom_by bytes names vs (syntax.Applied p ts) = Atom (predicate (names.find (text_at bytes p))) (numbered_terms_by bytes names vs ts Nil)

-- a formula or its negation
abbrev pub negated : Bool → Form → Form
negated false f = f
negated true f = Not f

-- a formula quantified over elements
abbrev pub over_elements : Quantifier → Var → Form → Form
over_elements quantifier.All x f = All x f
over_elements quantifier.Ex x f = Ex x f

-- a formula quantified over tables
abbrev pub quantified_over : Quantifier → PVar → Form → Form
quantified_over quantifier.All p f = All2 p f
quantified_over quantifier.Ex p f = Ex2 p f

-- a formula with a sign
abbrev pub joined_by : Operator → Form → Form → Form
joined_by operator.And f g = And f g
joined_by operator.Or f g = Or f g
joined_by operator.Imp f g = Imp f g
joined_by operator.Iff f g = Iff f g

-- the formula of a tree; parentheses leave no trace
abbrev pub numbered_by : {V P : Type 0} → List ℕ → Names V P → V → syntax.Tree Span → Form
numbered_by bytes names vs (syntax.Constant b) = constant b
numbered_by bytes names vs (syntax.Atom t) = numbered_atom_by bytes names vs t
numbered_by bytes names vs (syntax.Equation b at l r) = negated b (Equal (numbered_term_by bytes names vs l) (numbered_term_by bytes names vs r))
numbered_by bytes names vs (syntax.Not a) = Not (numbered_by bytes names vs a)
numbered_by bytes names vs (syntax.Bind q x s a) =
    over_elements q (record { num = num_of_by names (text_at bytes x); sort = binder_sort_by bytes names s })
    (numbered_by bytes names (names.with_sort vs (num_of_by names (text_at bytes x)) (binder_sort_by bytes names s)) a)
numbered_by bytes names vs (syntax.Bind2 q p ss a) =
    quantified_over q (record { num = num_of_by names (text_at bytes p); args = sort_numbers_by bytes names.find ss }) (numbered_by bytes names vs a)
numbered_by bytes names vs (syntax.Binary op l r) = joined_by op (numbered_by bytes names vs l) (numbered_by bytes names vs r)
numbered_by bytes names vs (syntax.Paren a) = numbered_by bytes names vs a

-- ---- the same in a problem, by its declarations and names

-- the variable with a number, of its sort at its place
abbrev pub variable_with : List (Option ℕ) → ℕ → Term
variable_with vs n = variable_of n (get_or vs n None)

-- the term with a head and arguments
abbrev pub applied : List (Option ℕ) → Option Found → Terms → Term
applied vs = applied_by (λ n. Fun n) (λ n. get_or vs n None)

-- the term of an expression
abbrev pub numbered_term : List ℕ → List Declaration → List (Option ℕ) → syntax.Term Span → Term
numbered_term bytes ds = numbered_term_by bytes (problem_names ds)

-- the terms of expressions, in front of further ones
abbrev pub numbered_terms : List ℕ → List Declaration → List (Option ℕ) → syntax.Terms Span → Terms → Terms
numbered_terms bytes ds = numbered_terms_by bytes (problem_names ds)

-- the atom of an expression
abbrev pub numbered_atom : List ℕ → List Declaration → List (Option ℕ) → syntax.Term Span → Form
numbered_atom bytes ds = numbered_atom_by bytes (problem_names ds)

-- the formula of a tree; parentheses leave no trace
abbrev pub numbered : List ℕ → List Declaration → List (Option ℕ) → syntax.Tree Span → Form
numbered bytes ds = numbered_by bytes (problem_names ds)
