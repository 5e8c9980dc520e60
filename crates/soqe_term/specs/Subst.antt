-- A variable replaced by a term.
use Rattle.std.specs.Prelude.{ℕ, eqb, cond, ◌≡◌, true}
use Rattle.soqe_term.specs.declared.term.Var.{Var}
use Rattle.soqe_term.specs.declared.term.Term.{Term, Var as var, App}
use Rattle.soqe_term.specs.declared.term.Terms.{Terms, Nil, Cons, Cons', end_of-Term as end, more_of-Term as one, end_of-Terms as ends, more_of-Terms as ones}
use Rattle.soqe_term.specs.World.{World, with_var}
use Rattle.soqe_term.specs.Value.{value}
use Rattle.soqe_term.specs.Sorting.{Sorting, over_var, own_sort, sorted_term}

abbrev mutual
  -- the term with `by` for each occurrence of the variable x
  pub replaced : ℕ → Term → Term → Term
  replaced x by (var y) = cond (eqb y.num x) by (var y)
  replaced x by (App f s ts) = App f s (all_replaced x by ts)

  pub all_replaced : ℕ → Term → Terms → Terms
  all_replaced x by Nil = Nil
  all_replaced x by (Cons' _ (one t end) _ (ones ts ends)) = Cons (replaced x by t) (all_replaced x by ts)

-- in every world, r has the value of t where x has the value of `by`
abbrev pub HasValueOfReplaced : ℕ → Term → Term → Term → Type 0
HasValueOfReplaced x by t r = (w : World) → value w r ≡ value (with_var w x (value w by)) t

-- r is well sorted, of the sort of t, wherever `by` is, and t is where x is known
abbrev pub KeepsSort : Var → Term → Term → Term → Type 0
KeepsSort x by t r =
    (e : Sorting) → sorted_term e by ≡ true → sorted_term (over_var e x.num x.sort) t ≡ true → (sorted_term e r ≡ true) × (own_sort r ≡ own_sort t)
