-- The formulas on which calls are measured.
-- The variables 0, 1 and 2 are bound in them, 3 is free in each, and those from 4 on are free in one part each.
use Rattle.std.specs.Prelude.{ℕ, zero, suc, ◌+◌, ◌*◌, ◌/◌, ◌%◌}
use Rattle.soqe_term.specs.declared.term.Var.{Var}
use Rattle.soqe_term.specs.declared.term.Sym.TheVariants.{Fun}
use Rattle.soqe_term.specs.declared.term.Term.{Term, Var as var, App}
use Rattle.soqe_term.specs.declared.term.Terms.{Terms, Nil, Cons}
use Rattle.soqe_form.specs.declared.form.Pred.TheVariants.{Decl}
use Rattle.soqe_form.specs.declared.form.Form.{Form, True, Equal, Atom, Not, And, Imp, All, Ex}
use Rattle.soqe_calls.specs.declared.words.Shape.{Shape}
use Rattle.soqe_calls.specs.declared.words.Shape.TheVariants.{Wide, Deep, Mixed, Negations, NegationRows, ChainRows}

-- the variable with a number, of the first sort
abbrev pub variable : ℕ → Var
variable n = record { num = n; sort = 0 }

-- a list of arguments that begins with a variable
abbrev pub with_first : ℕ → Terms → Terms
with_first n ts = Cons (var (variable n)) ts

-- the first function of a variable
abbrev pub image : ℕ → Term
image n = App (Fun 0) 0 (with_first n Nil)

-- all x. ~(ex y. (P(x, y, w) & ~(y = z)) -> Q(x)), where z is another variable in each part
abbrev pub part : ℕ → Form
part k =
    All (variable 0) (Not (Imp
    (Ex (variable 1) (And
    (Atom (Decl 0) (with_first 0 (with_first 1 (with_first 3 Nil))))
    (Not (Equal (var (variable 1)) (var (variable (k + 4)))))))
    (Atom (Decl 1) (with_first 0 Nil))))

-- a conjunction of parts, the first ones innermost
abbrev pub wide : ℕ → Form
wide zero = True
wide (suc k) = And (wide k) (part k)

-- R(x, y, z, w)
abbrev pub core : Form
core = Atom (Decl 2) (with_first 0 (with_first 1 (with_first 2 (with_first 3 Nil))))

-- binders of three variables in turn before a formula
abbrev pub bound : ℕ → Form → Form
bound zero f = f
bound (suc k) f = All (variable (k % 3)) (bound k f)

-- negations of an atom
abbrev pub negations : ℕ → Form
negations zero = core
negations (suc k) = Not (negations k)

-- A
abbrev pub alone : Form
alone = Atom (Decl 3) Nil

-- A & A & .. & A with so many signs
abbrev pub chain : ℕ → Form
chain zero = alone
chain (suc k) = And (chain k) alone

-- a row of negations, which has 1,999 nodes
unfoldable pub negation_row : Form
negation_row = negations 1998

-- a chain of 1,000 atoms, which has 1,999 nodes
unfoldable pub chain_row : Form
chain_row = chain 999

-- a formula and so many times a row behind it
abbrev pub rows : ℕ → Form → Form → Form
rows zero row first = first
rows (suc k) row first = And (rows k row first) row

-- the formula of a shape and a size
abbrev pub shaped : Shape → ℕ → Form
shaped Wide n = wide (n / 10)
shaped Deep n = bound (n / 4) core
shaped Mixed n = bound (n / 8) (wide (n / 20))
shaped Negations n = negations n
shaped NegationRows n = rows (n / 2000) negation_row (negations (n % 2000))
shaped ChainRows n = rows (n / 2000) chain_row (chain (n % 2000 / 2))

-- how many nodes the formula of a shape and a size has
abbrev pub size_of : Shape → ℕ → ℕ
size_of Wide n = 10 * (n / 10) + 1
size_of Deep n = n / 4 + 1
size_of Mixed n = n / 8 + (10 * (n / 20) + 1)
size_of Negations n = n + 1
size_of NegationRows n = n + 1
size_of ChainRows n = 2 * (n / 2) + 1
