-- New names: which may join the declarations, and the declarations with one more.
use Rattle.std.specs.Prelude.{◌≡◌, ℕ, Bool, true, false, List, [], ◌∷◌, ◌++◌, Some, None, codes, Result, Err}
use Rattle.soqe_name.specs.Names.{is_ordinary}
use Rattle.soqe_signature.specs.declared.kinds.Kind.{Kind}
use Rattle.soqe_signature.specs.declared.kinds.Kind.TheVariants as kind
use Rattle.soqe_signature.specs.declared.kinds.DeclareFault.{DeclareFault}
use Rattle.soqe_signature.specs.declared.kinds.DeclareFault.TheVariants as fault
use Rattle.soqe_signature.specs.Declarations.{Declaration, lookup, count_of, numbering_of}
use Rattle.soqe_text.specs.declared.new_names.NameFault.{NameFault}
use Rattle.soqe_text.specs.declared.new_names.NameFault.TheVariants as name_fault

-- what every signature begins with
abbrev pub first_declared : List Declaration
first_declared = record { name = codes "obj"; kind = kind.Sort } ∷ []

-- a name that stands for nothing yet and is ordinary
abbrev pub is_new : List Declaration → List ℕ → Bool
is_new ds name = elim (lookup ds name) [ Some f ↦ false | None ↦ is_ordinary name ]

-- the declarations with one more
abbrev pub with_declared : List Declaration → List ℕ → Kind → List Declaration
with_declared ds name k = ds ++ record { name = name; kind = k } ∷ []

-- the number of a name at its binder, with the declarations and names up to there
pub record Entered : Type 0 where
  pub num : ℕ
  pub declared : List Declaration

-- A new ordinary name is declared, with the next number of its numbering.
pub record IsDeclared (old : List Declaration) (name : List ℕ) (k : Kind) (num : ℕ) (new : List Declaration) : Type 0 where
  pub is_new : is_new old name ≡ true
  pub num_is : num ≡ count_of (numbering_of k) old
  pub new_is : new ≡ with_declared old name k

-- what holds where a name is refused
abbrev pub OnRefusedName : {T : Type 0} → Result T NameFault → Type 0 → Type 0
OnRefusedName (Err name_fault.Refused) P = P
OnRefusedName _ P = Unit {0}

-- why a name does not join the declarations
abbrev pub name_fault_of : DeclareFault → NameFault
name_fault_of fault.Memory = name_fault.Memory
name_fault_of (fault.Duplicate place) = name_fault.Refused
name_fault_of fault.Reserved = name_fault.Refused
name_fault_of (fault.UnknownSort sort) = name_fault.Refused
