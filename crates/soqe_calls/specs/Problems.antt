-- The problems whose goals are the measured formulas: the predicates of the formulas, and all their variables, are declared.
use Rattle.std.specs.Prelude.{ℕ, zero, suc, ◌+◌, ◌/◌, List, [], ◌∷◌, ◌++◌, codes}
use Rattle.std.specs.Fmt.{decimal}
use Rattle.soqe_signature.specs.Declarations.{Declaration}
use Rattle.soqe_signature.specs.declared.kinds.Kind.{Kind}
use Rattle.soqe_signature.specs.declared.kinds.Kind.TheVariants as kind
use Rattle.soqe_form.specs.declared.form.Form.{Form}
use Rattle.soqe_text.specs.declared.problem.Problem.{Problem}
use Rattle.soqe_text.specs.declared.problem.Problem.TheVariants as problem
use Rattle.soqe_calls.specs.declared.words.Shape.{Shape}
use Rattle.soqe_calls.specs.declared.words.Shape.TheVariants.{Wide, Deep, Mixed, Negations, NegationRows, ChainRows}
use Rattle.soqe_calls.specs.Shapes.{shaped}

-- a name that stands for a kind of thing
abbrev pub declared : List ℕ → Kind → Declaration
declared name k = record { name = name; kind = k }

-- the sort `obj` and the predicates of the formulas
abbrev pub predicates : List Declaration
predicates =
    declared (codes "obj") kind.Sort
    ∷ declared (codes "P") (kind.Pred (0 ∷ 0 ∷ 0 ∷ []))
    ∷ declared (codes "Q") (kind.Pred (0 ∷ []))
    ∷ declared (codes "R") (kind.Pred (0 ∷ 0 ∷ 0 ∷ 0 ∷ []))
    ∷ declared (codes "A") (kind.Pred [])
    ∷ []

-- the name of a variable: v with its number
abbrev pub variable_name : ℕ → List ℕ
variable_name n = codes "v" ++ decimal n

-- the names of the formulas, with so many variables
abbrev pub names : ℕ → List Declaration
names zero = predicates
names (suc k) = names k ++ declared (variable_name k) (kind.Free 0) ∷ []

-- how many variables the formula of a shape and a size has: four, and one for each part
abbrev pub variables : Shape → ℕ → ℕ
variables Wide n = n / 10 + 4
variables Deep n = 4
variables Mixed n = n / 20 + 4
variables Negations n = 4
variables NegationRows n = 4
variables ChainRows n = 4

-- the problem whose goal is the formula of a shape and a size
abbrev pub problem_of : Shape → ℕ → Problem
problem_of shape n = problem.Elim (names (variables shape n)) (shaped shape n)

-- the goal of a problem
abbrev pub goal_of : Problem → Form
goal_of (problem.Elim ds goal) = goal
