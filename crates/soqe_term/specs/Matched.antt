-- Matching a pattern step by step, from left to right.
use Rattle.std.specs.Prelude.{ℕ, List, [], ◌∷◌, ◌++◌, ◌&&◌, eqb, cond, Option, Some, None}
use Rattle.std.specs.Option.{option_and_then}
use Rattle.soqe_term.specs.declared.bindings.Bound.{Bound}
use Rattle.soqe_term.specs.declared.term.Var.{Var}
use Rattle.soqe_term.specs.declared.term.Term.{Term, Var as var, App}
use Rattle.soqe_term.specs.declared.term.Terms.{Terms, Nil, Cons', end_of-Term as end, more_of-Term as one, end_of-Terms as ends, more_of-Terms as ones}
use Rattle.soqe_number.specs.Unused.{member}
use Rattle.soqe_term.specs.Sorting.{own_sort}
use Rattle.soqe_term.specs.Bindings.{bound_term}
use Rattle.soqe_term.specs.Equal.{equal_symbols, equal_terms}

-- a variable that isn't bound: a fixed one stays, another is bound to a term of its sort
abbrev pub matched_free : List ℕ → Var → Term → List Bound → Option (List Bound)
matched_free fixed x u s =
    cond (member x.num fixed) (cond (equal_terms (var x) u) (Some s) None) (cond (eqb x.sort (own_sort u)) (Some (s ++ record { var = x; term = u } ∷ [])) None)

-- a variable by what it is bound to
abbrev pub matched_at : Option Term → List ℕ → Var → Term → List Bound → Option (List Bound)
matched_at (Some t) fixed x u s = cond (equal_terms t u) (Some s) None
matched_at None fixed x u s = matched_free fixed x u s

abbrev pub matched_var : List ℕ → Var → Term → List Bound → Option (List Bound)
matched_var fixed x u s = matched_at (bound_term s x.num) fixed x u s

abbrev mutual
  -- the binding that a pattern and a term lead to, none where they clash
  pub matched : List ℕ → Term → Term → List Bound → Option (List Bound)
  matched fixed (var x) u s = matched_var fixed x u s
  matched fixed (App f m ts) (var y) s = None
  matched fixed (App f m ts) (App g n us) s = cond (equal_symbols f g && eqb m n) (matched_all fixed ts us s) None

  pub matched_all : List ℕ → Terms → Terms → List Bound → Option (List Bound)
  matched_all fixed Nil Nil s = Some s
  matched_all fixed Nil (Cons' _ (one u end) _ (ones us ends)) s = None
  matched_all fixed (Cons' _ (one t end) _ (ones ts ends)) Nil s = None
  matched_all fixed (Cons' _ (one t end) _ (ones ts ends)) (Cons' _ (one u end) _ (ones us ends)) s =
      option_and_then (λ r. matched_all fixed ts us r) (matched fixed t u s)
