-- What the words ask for.
use Rattle.std.specs.Prelude.{ℕ, ◌≡◌, ◌^◌, ◌<◌, List, [], ◌∷◌, Option, None, Some, if◌then◌else◌, codes}
use Rattle.std.specs.Option.{option_or}
use Rattle.std.specs.Str.{bytes_eq}
use Rattle.std.specs.Str.Parse.{IsNumeral, digits_value, without_leading_plus}
use Rattle.soqe_calls.specs.declared.words.Call.{Call}
use Rattle.soqe_calls.specs.declared.words.Call.TheVariants.{Nothing, Nodes, FreeVars, Copy, Same, Tidy, Subst, SubstRenaming, Apart, Nnf, Simplify}
use Rattle.soqe_calls.specs.declared.words.Shape.{Shape}
use Rattle.soqe_calls.specs.declared.words.Shape.TheVariants.{Wide, Deep, Mixed, Negations, NegationRows, ChainRows}
use Rattle.soqe_calls.specs.declared.words.Plan.{Plan}
use Rattle.soqe_calls.specs.declared.words.Plan.TheVariants.{Numbers, LeastUnused, Formula, Cases, Text}
use Rattle.soqe_calls.specs.declared.words.TextCall.TheVariants as text

-- the shape of this name
abbrev pub shape_named : List ℕ → Option Shape
shape_named name =
    if bytes_eq name (codes "wide") then Some Wide
    else if bytes_eq name (codes "deep") then Some Deep
    else if bytes_eq name (codes "mixed") then Some Mixed
    else if bytes_eq name (codes "negations") then Some Negations
    else if bytes_eq name (codes "negation_rows") then Some NegationRows
    else if bytes_eq name (codes "chain_rows") then Some ChainRows
    else None

-- the call of this name, of those that make no new formula
abbrev pub asking_named : List ℕ → Option Call
asking_named name =
    if bytes_eq name (codes "none") then Some Nothing
    else if bytes_eq name (codes "nodes") then Some Nodes
    else if bytes_eq name (codes "free_vars") then Some FreeVars
    else if bytes_eq name (codes "same") then Some Same
    else None

-- the call of this name, of those that make a new formula
abbrev pub making_named : List ℕ → Option Call
making_named name =
    if bytes_eq name (codes "copy") then Some Copy
    else if bytes_eq name (codes "tidy") then Some Tidy
    else if bytes_eq name (codes "subst") then Some Subst
    else if bytes_eq name (codes "subst_renaming") then Some SubstRenaming
    else if bytes_eq name (codes "apart") then Some Apart
    else if bytes_eq name (codes "nnf") then Some Nnf
    else if bytes_eq name (codes "simplify") then Some Simplify
    else None

-- the call of this name
abbrev pub call_named : List ℕ → Option Call
call_named name = option_or (asking_named name) (making_named name)

-- the plan of the name of a call on a list
abbrev pub list_plan : List ℕ → ℕ → Option Plan
list_plan name size =
    if bytes_eq name (codes "none") then Some (Numbers size)
    else if bytes_eq name (codes "least_unused") then Some (LeastUnused size)
    else None

-- the plan of the name of a call that gives cases, or on a problem or its text
abbrev pub other_plan : List ℕ → Shape → ℕ → Option Plan
other_plan name shape size =
    if bytes_eq name (codes "cases") then Some (Cases shape size)
    else if bytes_eq name (codes "problem") then Some (Text text.Problem shape size)
    else if bytes_eq name (codes "print") then Some (Text text.Print shape size)
    else if bytes_eq name (codes "read") then Some (Text text.Read shape size)
    else None

-- the plan of a call on a formula, or else another one
abbrev pub formula_plan : Option Call → Option Plan → Shape → ℕ → Option Plan
formula_plan (Some call) other shape size = Some (Formula call shape size)
formula_plan None other shape size = other

-- the plan of the name of a call on a shape
abbrev pub shape_plan : List ℕ → Option Shape → ℕ → Option Plan
shape_plan name None size = None
shape_plan name (Some shape) size = formula_plan (call_named name) (other_plan name shape size) shape size

-- the plan of the names of a call and a shape, and of a size
abbrev pub plan_named : List ℕ → List ℕ → ℕ → Option Plan
plan_named call shape size =
    if bytes_eq shape (codes "list") then list_plan call size else shape_plan call (shape_named shape) size

-- the text is a numeral below 2^32, with or without a plus in front, and this is its number
abbrev pub IsSize : List ℕ → ℕ → Type 0
IsSize text n = (IsNumeral 10 (without_leading_plus text) × (digits_value 10 (without_leading_plus text) < 2 ^ 32)) × (n ≡ digits_value 10 (without_leading_plus text))

-- the plan of the words, the program's name first: that of a call, a shape and a size; none of other words
unfoldable pub IsPlanOf : List (List ℕ) → Option Plan → Type 0
IsPlanOf (name ∷ call ∷ shape ∷ size ∷ []) plan =
    ((n : ℕ) → IsSize size n → plan ≡ plan_named call shape n) × (((n : ℕ) → IsSize size n → ⊥) → plan ≡ None)
IsPlanOf words plan = plan ≡ None
