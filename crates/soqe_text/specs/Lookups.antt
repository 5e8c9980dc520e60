-- The look-up of names that the reader carries, and what it knows at a place of the sorts of variables and bound predicates.
use Rattle.std.specs.Prelude.{ℕ, ◌≡◌, List, Option, Some, None, get_or, set, nat_eq}
use Rattle.std.specs.Map as map
use Rattle.std.specs.Option.{unwrap_or}
use Rattle.soqe_signature.specs.declared.kinds.Kind.TheVariants as kind
use Rattle.soqe_term.specs.declared.term.Sym.{Sym}
use Rattle.soqe_term.specs.declared.term.Sym.TheVariants.{Fun, Skolem}
use Rattle.soqe_signature.specs.Declarations.{Found, lookup}
use Rattle.soqe_number.specs.Updates.{changed}
use Rattle.soqe_text.specs.declared.lookup.Lookup.{Lookup}
use Rattle.soqe_text.specs.declared.lookup.Lookup.TheVariants as look
use Rattle.soqe_text.specs.declared.lookup.Meaning.{Meaning}
use Rattle.soqe_text.specs.declared.lookup.Meaning.TheVariants as meaning
use Rattle.soqe_text.specs.declared.known.Known.{Known}
use Rattle.soqe_text.specs.declared.known.Known.TheVariants as known
use Rattle.soqe_text.specs.Meanings.{Names, found_in, symbol_in}

-- what a name stands for
abbrev pub found_by : Lookup → List ℕ → Option Found
found_by (look.Problem sig) = lookup sig.now
found_by (look.Form sig skolems) = found_in sig.now skolems.now

-- the function with a name and a number
abbrev pub symbol_by : Lookup → List ℕ → ℕ → Sym
symbol_by (look.Problem sig) name n = Fun n
symbol_by (look.Form sig skolems) name n = symbol_in sig.now name n

-- a meaning, as what is found
abbrev pub found_of : Meaning → Found
found_of (meaning.Sort n) = record { kind = kind.Sort; num = n }
found_of (meaning.Fun n args result) = record { kind = kind.Fun args.now result; num = n }
found_of (meaning.Skolem n args result) = record { kind = kind.Fun args.now result; num = n }
found_of (meaning.Pred n args) = record { kind = kind.Pred args.now; num = n }
found_of (meaning.Free n sort) = record { kind = kind.Free sort; num = n }
found_of (meaning.Rel n) = record { kind = kind.Rel; num = n }
found_of (meaning.Prop n) = record { kind = kind.Prop; num = n }
found_of (meaning.Variable n) = record { kind = kind.VarName; num = n }
found_of (meaning.BoundPred n) = record { kind = kind.PredName; num = n }

-- The symbols are those of a meaning that is a function.
abbrev pub IsNamedBy : (ℕ → Sym) → Meaning → Type 0
IsNamedBy symbol (meaning.Fun n args result) = symbol n ≡ Fun n
IsNamedBy symbol (meaning.Skolem n args result) = symbol n ≡ Skolem n
IsNamedBy symbol _ = Unit {0}

-- what is known of each number: by a list that has a place for it, or by a function
pub data Places (X : Type 0) : Type 0 where
  ByList : List (Option X) → Places X
  ByNumber : (ℕ → Option X) → Places X

-- what is known of a number
abbrev pub known_at : {X : Type 0} → Places X → ℕ → Option X
known_at (ByList xs) n = get_or xs n None
known_at (ByNumber f) n = f n

-- what is known after a number got something, or nothing
abbrev pub with_known : {X : Type 0} → Places X → ℕ → Option X → Places X
with_known (ByList xs) n o = ByList (set xs n o)
with_known (ByNumber f) n o = ByNumber (changed f n o)

-- what entries say of a number
unfoldable pub entered : {X : Type 0} → List (ℕ × Option X) → ℕ → Option X
entered entries n = unwrap_or (map.lookup (nat_eq n) entries) None

-- what the reader knows
abbrev pub places : {X : Type 0} → Known X → Places X
places (known.Listed xs) = ByList xs.items
places (known.Mapped m) = ByNumber (entered m.entries)

-- the names of a look-up
abbrev pub names_of : Lookup → Names (Places ℕ) (Places (List ℕ))
names_of l = record {
  find = found_by l;
  symbol = symbol_by l;
  sort_at = known_at;
  with_sort = λ vs n s. with_known vs n (Some s);
  sorts_at = known_at;
  with_sorts = λ ps n ss. with_known ps n (Some ss);
}
