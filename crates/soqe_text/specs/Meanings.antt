-- What the names of a formula stand for: by the declarations of a problem, or, for a formula by itself, by these and the
-- tagged names.
use Rattle.std.specs.Prelude.{ℕ, cond, nat_lt, ◌==◌, List, [], ◌∷◌, Option, Some, None, get_or, set}
use Rattle.std.specs.Option.{option_or}
use Rattle.std.specs.Str.Parse.{digits_value}
use Rattle.soqe_lex.specs.Lexical.{is_number}
use Rattle.soqe_signature.specs.declared.kinds.Kind.TheVariants as kind
use Rattle.soqe_signature.specs.declared.kinds.NameKind.TheVariants as numbering
use Rattle.soqe_signature.specs.declared.skolems.SkolemSig.{SkolemSig}
use Rattle.soqe_term.specs.declared.term.Sym.{Sym}
use Rattle.soqe_term.specs.declared.term.Sym.TheVariants.{Fun, Skolem}
use Rattle.soqe_term.specs.declared.term.Var.{Var}
use Rattle.soqe_signature.specs.SkolemSigs.{skolem_sort_of}
use Rattle.soqe_term.specs.Sorting.{FunSort}
use Rattle.soqe_signature.specs.Declarations.{Declaration, Found, lookup, count_of}
use Rattle.soqe_form.specs.declared.form.PVar.{PVar}
use Rattle.soqe_signature.specs.Scope.{sort_among, sorts_among}

-- What names stand for, and what a place knows of the sorts of its variables and of its bound predicates.
pub record Names (V P : Type 0) : Type 0 where
  -- what a name stands for; a Skolem function is found as a function
  pub find : List ℕ → Option Found
  -- the function with a name and a number
  pub symbol : List ℕ → ℕ → Sym
  -- the sort of the variable with a number, and the place where it has another one
  pub sort_at : V → ℕ → Option ℕ
  pub with_sort : V → ℕ → ℕ → V
  -- the argument sorts of the bound predicate with a number, and the place where it has others
  pub sorts_at : P → ℕ → Option (List ℕ)
  pub with_sorts : P → ℕ → List ℕ → P

-- the names of a problem: those that are declared or bound in it, and a place for each number
abbrev pub problem_names : List Declaration → Names (List (Option ℕ)) (List (Option (List ℕ)))
problem_names ds = record {
  find = lookup ds;
  symbol = λ name n. Fun n;
  sort_at = λ vs n. get_or vs n None;
  with_sort = λ vs n s. set vs n (Some s);
  sorts_at = λ ps n. get_or ps n None;
  with_sorts = λ ps n ss. set ps n (Some ss);
}

-- a number that no name has
abbrev pub unnamed : ℕ → ℕ → Found → Option Found
unnamed count n f = cond (nat_lt n count) None (Some f)

-- the Skolem function with a number
abbrev pub skolem_found : ℕ → Option FunSort → Option Found
skolem_found n None = None
skolem_found n (Some k) = Some (record { kind = kind.Fun k.args k.result; num = n })

-- what a tag and a number stand for; the tag n stands for nothing
abbrev pub tag_found : List Declaration → List SkolemSig → ℕ → ℕ → Option Found
tag_found ds ks tag n =
    cond (tag == 112) (unnamed (count_of numbering.BoundPred ds) n (record { kind = kind.PredName; num = n }))
    (cond (tag == 102) (skolem_found n (skolem_sort_of ks n)) None)

-- what stands behind the underscore of a tagged name: a variable's number, or a tag and a number
abbrev pub tagged_found : List Declaration → List SkolemSig → List ℕ → Option Found
tagged_found ds ks [] = None
tagged_found ds ks (b ∷ bs) =
    cond (is_number (b ∷ bs)) (unnamed (count_of numbering.Variable ds) (digits_value 10 (b ∷ bs)) (record { kind = kind.VarName; num = digits_value 10 (b ∷ bs) }))
    (cond (is_number bs) (tag_found ds ks b (digits_value 10 bs)) None)

-- what a tagged name stands for
abbrev pub found_by_tag : List Declaration → List SkolemSig → List ℕ → Option Found
found_by_tag ds ks [] = None
found_by_tag ds ks (b ∷ bs) = cond (b == 95) (tagged_found ds ks bs) None

-- what a name stands for in a formula by itself: what the tables say, or what its tag and its number say
abbrev pub found_in : List Declaration → List SkolemSig → List ℕ → Option Found
found_in ds ks name = option_or (lookup ds name) (found_by_tag ds ks name)

-- the function with a number, by what is declared of its name: a Skolem function where nothing is
abbrev pub symbol_of : Option Found → ℕ → Sym
symbol_of None n = Skolem n
symbol_of (Some f) n = Fun n

-- the function with a name and a number
abbrev pub symbol_in : List Declaration → List ℕ → ℕ → Sym
symbol_in ds name n = symbol_of (lookup ds name) n

-- the names of a formula by itself; a place lists the variables and bound predicates that are known there, the nearest first
abbrev pub form_names : List Declaration → List SkolemSig → Names (List Var) (List PVar)
form_names ds ks = record {
  find = found_in ds ks;
  symbol = symbol_in ds;
  sort_at = sort_among;
  with_sort = λ xs n s. record { num = n; sort = s } ∷ xs;
  sorts_at = sorts_among;
  with_sorts = λ ps n ss. record { num = n; args = ss } ∷ ps;
}
