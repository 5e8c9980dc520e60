-- Which words are taken, and what they ask for.
use Rattle.std.specs.Prelude.{ℕ, ◌&&◌, List, [], ◌∷◌, Option, None, Some, if◌then◌else◌, codes}
use Rattle.std.specs.Str.{bytes_eq}
use Rattle.std.specs.Option.{option_map}
use Rattle.soqe_flow.specs.declared.derivation.Wanted.{Wanted}
use Rattle.soqe_flow.specs.declared.derivation.Wanted.TheVariants.{Sign, Dls}
use Rattle.soqe_run.specs.declared.plan.Plan.{Plan}
use Rattle.soqe_run.specs.declared.plan.Plan.TheVariants.{Elim}

-- the method of this name
abbrev pub method_named : List ℕ → Option Wanted
method_named name = if bytes_eq name (codes "sign") then Some Sign else if bytes_eq name (codes "dls") then Some Dls else None

-- the plan of the words of a command line, the program's name first
unfoldable pub the_plan : List (List ℕ) → Option Plan
the_plan (name ∷ command ∷ option ∷ method ∷ []) =
    if bytes_eq command (codes "elim") && bytes_eq option (codes "--method") then option_map (λ m. Elim m) (method_named method) else None
the_plan words = None
