-- The definitions on a small structure, whose answers are plain by hand.
use Rattle.std.specs.Prelude.{List, [], ◌∷◌}
use Rattle.soqe_signature.specs.declared.kinds.Kind.TheVariants as kind
use Rattle.soqe_term.specs.declared.term.Sym.TheVariants.{Fun}
use Rattle.soqe_term.specs.declared.term.Term.{Term, Var as var, App}
use Rattle.soqe_term.specs.declared.term.Terms.{Nil, Cons}
use Rattle.soqe_term.specs.World.{World}
use Rattle.soqe_signature.specs.Declarations.{Declaration}
use Rattle.soqe_signature.specs.Structures.{Structure, Setting, world_of}

-- sort A; fun f : A -> A; pred P(A); free x : A, with the letters as names
abbrev pub small_signature : List Declaration
small_signature =
    record { name = 65 ∷ []; kind = kind.Sort }
    ∷ record { name = 102 ∷ []; kind = kind.Fun (0 ∷ []) 0 }
    ∷ record { name = 80 ∷ []; kind = kind.Pred (0 ∷ []) }
    ∷ record { name = 120 ∷ []; kind = kind.Free 0 }
    ∷ []

-- three elements, f sends each to the next and the last to the first
abbrev pub small_structure : Structure
small_structure = record { sizes = 3 ∷ []; funs = (1 ∷ 2 ∷ 0 ∷ []) ∷ []; preds = [] ∷ [] }

-- x is the element 1; the second entry for it doesn't count
abbrev pub small_setting : Setting
small_setting = record { elements = (0, 1) ∷ (0, 2) ∷ []; bounds = []; skolems = [] }

abbrev pub small_world : World
small_world = world_of small_signature small_structure small_setting

-- x
abbrev pub x_term : Term
x_term = var (record { num = 0; sort = 0 })

-- f(f(x))
abbrev pub twice : Term
twice = App (Fun 0) 0 (Cons (App (Fun 0) 0 (Cons x_term Nil)) Nil)
