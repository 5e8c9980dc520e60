-- Which declarations are refused, and why.
use Rattle.std.specs.Prelude.{ℕ, ◌≡◌, Bool, true, false, cond, nat_lt, List, [], ◌∷◌, ◌++◌, Option, Some, None, Result, Ok, Err}
use Rattle.soqe_signature.specs.declared.kinds.Kind.{Kind}
use Rattle.soqe_signature.specs.declared.kinds.Kind.TheVariants as kind
use Rattle.soqe_signature.specs.declared.kinds.NameKind.TheVariants as numbering
use Rattle.soqe_signature.specs.declared.kinds.DeclareFault.{DeclareFault}
use Rattle.soqe_signature.specs.declared.kinds.DeclareFault.TheVariants as fault
use Rattle.soqe_signature.specs.Declarations.{Declaration, count_of, numbering_of, place_of}

-- the sorts that a kind names, arguments first
abbrev pub sorts_named : Kind → List ℕ
sorts_named (kind.Fun args result) = args ++ result ∷ []
sorts_named (kind.Pred args) = args
sorts_named (kind.Free sort) = sort ∷ []
sorts_named _ = []

-- the first sort that isn't declared, of so many
abbrev pub first_unknown : ℕ → List ℕ → Option ℕ
first_unknown n [] = None
first_unknown n (s ∷ sorts) = cond (nat_lt s n) (first_unknown n sorts) (Some s)

-- an undeclared sort is refused
abbrev pub unknown_fault : Option ℕ → Option DeclareFault
unknown_fault None = None
unknown_fault (Some s) = Some (fault.UnknownSort s)

-- the refusal of a name that isn't there, by whether it is an ordinary name
abbrev pub new_fault : Bool → List Declaration → Kind → Option DeclareFault
new_fault false ds k = Some fault.Reserved
new_fault true ds k = unknown_fault (first_unknown (count_of numbering.Sort ds) (sorts_named k))

-- the refusal by the name's place among the declarations
abbrev pub fault_at : Option ℕ → Bool → List Declaration → Kind → Option DeclareFault
fault_at (Some place) ordinary ds k = Some (fault.Duplicate place)
fault_at None ordinary ds k = new_fault ordinary ds k

-- why a declaration is refused: the name is there already, it is no ordinary name, or a sort of its kind isn't
-- declared, tested in this order
abbrev pub fault_of : (List ℕ → Bool) → List Declaration → List ℕ → Kind → Option DeclareFault
fault_of is_ordinary ds name k = fault_at (place_of ds name) (is_ordinary name) ds k

-- A declaration joins the others at the end, and its number is the next one of its numbering. Where it is refused, the
-- declarations stay, and the refusal is the one that is due.
abbrev pub Declares : (List ℕ → Bool) → List Declaration → List Declaration → List ℕ → Kind → Result ℕ DeclareFault → Type 0
Declares is_ordinary old new name k (Ok n) =
    (fault_of is_ordinary old name k ≡ None) × (n ≡ count_of (numbering_of k) old) × (new ≡ old ++ record { name = name; kind = k } ∷ [])
Declares is_ordinary old new name k (Err fault.Memory) = new ≡ old
Declares is_ordinary old new name k (Err e) = (fault_of is_ordinary old name k ≡ Some e) × (new ≡ old)
