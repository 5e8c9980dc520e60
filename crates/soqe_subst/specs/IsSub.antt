-- What substitution gives, and its laws.
use Rattle.std.specs.Prelude.{ℕ, ◌≡◌, ◌≤◌, true, List, [], ◌∷◌}
use Rattle.soqe_term.specs.declared.bindings.Bound.{Bound}
use Rattle.soqe_term.specs.declared.term.Var.{Var}
use Rattle.soqe_term.specs.declared.term.Term.{Term}
use Rattle.soqe_term.specs.World.{World, with_var}
use Rattle.soqe_term.specs.Value.{value}
use Rattle.soqe_term.specs.Sorting.{Sorting, over_var, sorted_term}
use Rattle.soqe_term.specs.Bindings.{with_binding, over_binding, HasOwnSorts, AreSorted}
use Rattle.soqe_form.specs.declared.form.Form.{Form}
use Rattle.soqe_form.specs.Truth.{truth}
use Rattle.soqe_form.specs.Sorted.{sorted}
use Rattle.soqe_form.specs.Mentions.{depth}
use Rattle.soqe_subst.specs.Substitution.{sub}

-- the binding of one variable
abbrev pub single : Var → Term → List Bound
single x by = record { var = x; term = by } ∷ []

-- r is f with its free variables replaced by their terms: for each depth that is enough
pub record IsSub (s : List Bound) (f r : Form) : Type 0 where
  pub by : (k : ℕ) → depth f ≤ k → r ≡ sub k s f

-- in every world, r has the truth of f where each variable has the value of its term
abbrev pub HasTruthOfSub : List Bound → Form → Form → Type 0
HasTruthOfSub s f r = (w : World) → truth w r ≡ truth (with_binding w s) f

-- in every world, r has the truth of f where x has the value of `by`
abbrev pub HasTruthOfSubst : Var → Term → Form → Form → Type 0
HasTruthOfSubst x by f r = (w : World) → truth w r ≡ truth (with_var w x.num (value w by)) f

-- r is well sorted wherever the terms are, and f is where their variables are known
abbrev pub SubKeepsSorts : List Bound → Form → Form → Type 0
SubKeepsSorts s f r = (e : Sorting) → HasOwnSorts s → AreSorted e s → sorted (over_binding e s) f ≡ true → sorted e r ≡ true

-- r is well sorted wherever `by` is, and f is where x is known
abbrev pub SubstKeepsSorts : Var → Term → Form → Form → Type 0
SubstKeepsSorts x by f r = (e : Sorting) → sorted_term e by ≡ true → sorted (over_var e x.num x.sort) f ≡ true → sorted e r ≡ true
