-- What is known where a part of a formula stands.
use Rattle.std.specs.Prelude.{ℕ, cond, eqb, List, [], ◌∷◌, Option, Some, None}
use Rattle.soqe_signature.specs.declared.skolems.SkolemSig.{SkolemSig}
use Rattle.soqe_term.specs.declared.term.Var.{Var}
use Rattle.soqe_number.specs.Updates.{changed}
use Rattle.soqe_term.specs.Sorting.{Sorting}
use Rattle.soqe_signature.specs.Declarations.{Declaration}
use Rattle.soqe_signature.specs.SkolemSigs.{sorting_with}
use Rattle.soqe_form.specs.declared.form.PVar.{PVar}
use Rattle.soqe_signature.specs.declared.sorting.Outside.{Outside}
use Rattle.soqe_signature.specs.declared.sorting.Scope.{Scope}
use Rattle.soqe_signature.specs.declared.sorting.Scope.TheVariants as scope

-- the sort of the variable with a number, by its first entry
abbrev pub sort_among : List Var → ℕ → Option ℕ
sort_among [] n = None
sort_among (x ∷ more) n = cond (eqb n x.num) (Some x.sort) (sort_among more n)

-- the argument sorts of the bound predicate with a number, by its first entry
abbrev pub sorts_among : List PVar → ℕ → Option (List ℕ)
sorts_among [] n = None
sorts_among (p ∷ more) n = cond (eqb n p.num) (Some p.args) (sorts_among more n)

-- what a signature, a table of Skolem functions, and lists of free variables and free bound predicates say of the names
abbrev pub sorting_for : List Declaration → List SkolemSig → List Var → List PVar → Sorting
sorting_for ds ks xs ps = record (sorting_with ds ks) { variable = sort_among xs; bound = sorts_among ps }

-- what is known outside a formula
abbrev pub known_outside : Outside → Sorting
known_outside o = sorting_for o.sig.now o.skolems.now o.free.now o.preds.now

-- the sorts of the variables in a scope
abbrev pub variables_in : (ℕ → Option ℕ) → Scope → ℕ → Option ℕ
variables_in v scope.Empty = v
variables_in v (scope.WithVar' x _ rest) = changed (variables_in v rest) x.num (Some x.sort)
variables_in v (scope.WithPred' p _ rest) = variables_in v rest

-- the argument sorts of the bound predicates in a scope
abbrev pub preds_in : (ℕ → Option (List ℕ)) → Scope → ℕ → Option (List ℕ)
preds_in b scope.Empty = b
preds_in b (scope.WithVar' x _ rest) = preds_in b rest
preds_in b (scope.WithPred' p _ rest) = changed (preds_in b rest) p.now.num (Some p.now.args)

-- what is known in a scope: the names known outside, and those that the binders on the way bind
abbrev pub known_in : Sorting → Scope → Sorting
known_in e s = record e { variable = variables_in e.variable s; bound = preds_in e.bound s }
