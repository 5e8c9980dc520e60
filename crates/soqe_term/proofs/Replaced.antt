-- What replacing variables by terms does to values and to sorts.
--
--   value-bound_in, values-bound_in      the value is that under the assignment changed at the bound variables
--   sorted-bound_in, sorted-all_bound_in      well-sorted terms stay so, and keep their sort
--   replaced-is, all_replaced-is      one variable replaced is a binding of one variable
--   value-replaced, values-replaced, sorted-replaced      the same for one variable
use Rattle.std.proofs.Common.{◌≡◌, ℕ, Bool, true, false, cond, eqb, ◌&&◌, List, [], ◌∷◌, Option, Some, None, refl, sym, ◌∙◌, ap, subst}
use Rattle.std.proofs.lemmas.Bool.{eqb-true, eq-eqb}
use Rattle.std.proofs.lemmas.List.Elements.{All-nil, All-cons, All-head, All-tail}
use Rattle.soqe_term.specs.declared.bindings.Bound.{Bound}
use Rattle.soqe_term.specs.declared.term.Var.{Var}
use Rattle.soqe_term.specs.declared.term.Sym.{Sym}
use Rattle.soqe_term.specs.declared.term.Sym.TheVariants.{Fun, Skolem}
use Rattle.soqe_term.specs.declared.term.Term.{Term, Var as var, App}
use Rattle.soqe_term.specs.declared.term.Terms.{Terms, Nil, Cons, Cons', end_of-Term as end, more_of-Term as one, end_of-Terms as ends, more_of-Terms as ones}
use Rattle.soqe_term.specs.World.{World, with_var}
use Rattle.soqe_term.specs.Value.{value, values}
use Rattle.soqe_term.specs.Boxes.{boxes}
use Rattle.soqe_term.specs.Sorting.{FunSort, Sorting, over_var, is_sort, with_fun, sym_sort, own_sort, sorted_term, sorted_terms}
use Rattle.soqe_term.specs.Bindings.{bound_term, term_or, bound_in, all_bound_in, assigned, with_binding, over_binding, HasOwnSorts, AreSorted, HasValueOfBound, KeepsSortOfBound}
use Rattle.soqe_term.specs.Subst.{replaced, all_replaced, HasValueOfReplaced, KeepsSort}
use Rattle.soqe_number.proofs.Choices.{by_cases, and_first, and_second}
use Rattle.soqe_term.proofs.Values.{fun-of}

value-term_or : (w : World) (s : List Bound) (y : Var) → value w (term_or (var y) (bound_term s y.num)) ≡ assigned w s y.num
value-term_or w [] y = refl
value-term_or w (b ∷ more) y =
    by_cases (λ o. value w (term_or (var y) o) ≡ assigned w (b ∷ more) y.num) (eqb y.num b.var.num) (Some b.term) (bound_term more y.num)
    (λ e. sym (ap (λ q. cond q (value w b.term) (assigned w more y.num)) e))
    (λ e. value-term_or w more y ∙ sym (ap (λ q. cond q (value w b.term) (assigned w more y.num)) e))

mutual
  unfolding boxes

  pub value-bound_in : (w : World) (s : List Bound) (t : Term) → value w (bound_in s t) ≡ value (with_binding w s) t
  value-bound_in w s (var y) = value-term_or w s y
  value-bound_in w s (App (Fun n) m ts) = ap (w.fun n) (values-bound_in w s ts)
  value-bound_in w s (App (Skolem n) m ts) = ap (w.skolem n) (values-bound_in w s ts)

  pub values-bound_in : (w : World) (s : List Bound) (ts : Terms) → values w (all_bound_in s ts) ≡ values (with_binding w s) ts
  values-bound_in w s Nil = refl
  values-bound_in w s (Cons' _ (one t end) _ (ones ts ends)) = λ i. value-bound_in w s t i ∷ values-bound_in w s ts i

-- the term of a known variable is well sorted, of its sort
sorted-term_or : (e : Sorting) (s : List Bound) (y : Var) → HasOwnSorts s → AreSorted e s → is_sort y.sort ((over_binding e s).variable y.num) ≡ true
    → (sorted_term e (term_or (var y) (bound_term s y.num)) ≡ true) × (own_sort (term_or (var y) (bound_term s y.num)) ≡ y.sort)
sorted-term_or e [] y o a h = (h, refl)
sorted-term_or e (b ∷ more) y o a h =
    by (eqb y.num b.var.num) h (sorted-term_or e more y (All-tail (λ b. own_sort b.term ≡ b.var.sort) b more o) (All-tail (λ b. sorted_term e b.term ≡ true) b more a))
  where
    by : (q : Bool) → is_sort y.sort (cond q (Some b.var.sort) ((over_binding e more).variable y.num)) ≡ true
        → (is_sort y.sort ((over_binding e more).variable y.num) ≡ true → (sorted_term e (term_or (var y) (bound_term more y.num)) ≡ true) × (own_sort (term_or (var y) (bound_term more y.num)) ≡ y.sort))
        → (sorted_term e (term_or (var y) (cond q (Some b.term) (bound_term more y.num))) ≡ true)
        × (own_sort (term_or (var y) (cond q (Some b.term) (bound_term more y.num))) ≡ y.sort)
    by true k rest = (All-head (λ b. sorted_term e b.term ≡ true) b more a, All-head (λ b. own_sort b.term ≡ b.var.sort) b more o ∙ sym (eqb-true y.sort b.var.sort k))
    by false k rest = rest k

-- bindings of variables leave the symbols
pub sym-over : (e : Sorting) (s : List Bound) (f : Sym) → sym_sort (over_binding e s) f ≡ sym_sort e f
sym-over e [] (Fun n) = refl
sym-over e [] (Skolem n) = refl
sym-over e (b ∷ more) (Fun n) = sym-over e more (Fun n)
sym-over e (b ∷ more) (Skolem n) = sym-over e more (Skolem n)

pub with_fun-pass : (p : List ℕ → Bool) (s : ℕ) (o : Option FunSort) (k : FunSort) → o ≡ Some k → s ≡ k.result → p k.args ≡ true → with_fun p s o ≡ true
with_fun-pass p s o k e r h = ap (with_fun p s) e ∙ (λ i. eq-eqb s k.result r i && h i)

mutual
  unfolding boxes

  pub sorted-bound_in : (e : Sorting) (s : List Bound) (t : Term) → HasOwnSorts s → AreSorted e s → sorted_term (over_binding e s) t ≡ true
      → (sorted_term e (bound_in s t) ≡ true) × (own_sort (bound_in s t) ≡ own_sort t)
  sorted-bound_in e s (var y) o a h = sorted-term_or e s y o a h
  sorted-bound_in e s (App f m ts) o a h =
      let k = fun-of (λ sorts. sorted_terms (over_binding e s) ts sorts) m (sym_sort (over_binding e s) f) h in
      (with_fun-pass (λ sorts. sorted_terms e (all_bound_in s ts) sorts) m (sym_sort e f) k.kind (sym (sym-over e s f) ∙ k.is) k.result (sorted-all_bound_in e s ts k.kind.args o a k.pass), refl)

  pub sorted-all_bound_in : (e : Sorting) (s : List Bound) (ts : Terms) (sorts : List ℕ) → HasOwnSorts s → AreSorted e s → sorted_terms (over_binding e s) ts sorts ≡ true
      → sorted_terms e (all_bound_in s ts) sorts ≡ true
  sorted-all_bound_in e s Nil [] o a h = refl
  sorted-all_bound_in e s Nil (r ∷ sorts) o a h = h
  sorted-all_bound_in e s (Cons' _ (one t end) _ (ones ts ends)) [] o a h = h
  sorted-all_bound_in e s (Cons' _ (one t end) _ (ones ts ends)) (r ∷ sorts) o a h =
      let e2 : Sorting = over_binding e s in
      let rest : (eqb (own_sort t) r && sorted_terms e2 ts sorts) ≡ true = and_second (sorted_term e2 t) (eqb (own_sort t) r && sorted_terms e2 ts sorts) h in
      let first : (sorted_term e (bound_in s t) ≡ true) × (own_sort (bound_in s t) ≡ own_sort t) = sorted-bound_in e s t o a (and_first (sorted_term e2 t) (eqb (own_sort t) r && sorted_terms e2 ts sorts) h) in
      let same : eqb (own_sort (bound_in s t)) r ≡ true = ap (λ n. eqb n r) first.1 ∙ and_first (eqb (own_sort t) r) (sorted_terms e2 ts sorts) rest in
      let others : sorted_terms e (all_bound_in s ts) sorts ≡ true = sorted-all_bound_in e s ts sorts o a (and_second (eqb (own_sort t) r) (sorted_terms e2 ts sorts) rest) in
      (λ i. first.0 i && (same i && others i))

-- the binding of one variable
abbrev pub only : ℕ → ℕ → Term → List Bound
only x sort by = record { var = record { num = x; sort = sort }; term = by } ∷ []

mutual
  unfolding boxes

  pub replaced-is : (x sort : ℕ) (by t : Term) → replaced x by t ≡ bound_in (only x sort by) t
  replaced-is x sort by (var y) = by_cases (λ o. cond (eqb y.num x) by (var y) ≡ term_or (var y) o) (eqb y.num x) (Some by) None
      (λ e. ap (λ q. cond q by (var y)) e) (λ e. ap (λ q. cond q by (var y)) e)
  replaced-is x sort by (App f m ts) = ap (App f m) (all_replaced-is x sort by ts)

  pub all_replaced-is : (x sort : ℕ) (by : Term) (ts : Terms) → all_replaced x by ts ≡ all_bound_in (only x sort by) ts
  all_replaced-is x sort by Nil = refl
  all_replaced-is x sort by (Cons' _ (one t end) _ (ones ts ends)) = λ i. Cons (replaced-is x sort by t i) (all_replaced-is x sort by ts i)

pub value-replaced : (w : World) (x : ℕ) (by t : Term) → value w (replaced x by t) ≡ value (with_var w x (value w by)) t
value-replaced w x by t = ap (value w) (replaced-is x 0 by t) ∙ value-bound_in w (only x 0 by) t

pub values-replaced : (w : World) (x : ℕ) (by : Term) (ts : Terms) → values w (all_replaced x by ts) ≡ values (with_var w x (value w by)) ts
values-replaced w x by ts = ap (values w) (all_replaced-is x 0 by ts) ∙ values-bound_in w (only x 0 by) ts

module _ (e : Sorting) (x s : ℕ) (by : Term) (o : own_sort by ≡ s) (a : sorted_term e by ≡ true) where
  own : HasOwnSorts (only x s by)
  own = All-cons (λ b. own_sort b.term ≡ b.var.sort) (record { var = record { num = x; sort = s }; term = by }) [] o (All-nil (λ b. own_sort b.term ≡ b.var.sort))

  are : AreSorted e (only x s by)
  are = All-cons (λ b. sorted_term e b.term ≡ true) (record { var = record { num = x; sort = s }; term = by }) [] a (All-nil (λ b. sorted_term e b.term ≡ true))

  pub sorted-replaced : (t : Term) → sorted_term (over_var e x s) t ≡ true → (sorted_term e (replaced x by t) ≡ true) × (own_sort (replaced x by t) ≡ own_sort t)
  sorted-replaced t h =
      subst (λ r. (sorted_term e r ≡ true) × (own_sort r ≡ own_sort t)) (sym (replaced-is x s by t)) (sorted-bound_in e (only x s by) t own are h)

  pub sorted-all_replaced : (ts : Terms) (sorts : List ℕ) → sorted_terms (over_var e x s) ts sorts ≡ true → sorted_terms e (all_replaced x by ts) sorts ≡ true
  sorted-all_replaced ts sorts h =
      subst (λ r. sorted_terms e r sorts ≡ true) (sym (all_replaced-is x s by ts)) (sorted-all_bound_in e (only x s by) ts sorts own are h)

-- the laws of an exact result
pub has_value_of_replaced : (x : ℕ) (by t r : Term) → r ≡ replaced x by t → HasValueOfReplaced x by t r
has_value_of_replaced x by t r e w = ap (value w) e ∙ value-replaced w x by t

pub keeps_sort : (x : Var) (by t r : Term) → own_sort by ≡ x.sort → r ≡ replaced x.num by t → KeepsSort x by t r
keeps_sort x by t r o e d a h = subst (λ r. (sorted_term d r ≡ true) × (own_sort r ≡ own_sort t)) (sym e) (sorted-replaced d x.num x.sort by o a t h)

pub has_value_of_bound : (s : List Bound) (t r : Term) → r ≡ bound_in s t → HasValueOfBound s t r
has_value_of_bound s t r e w = ap (value w) e ∙ value-bound_in w s t

pub keeps_sort_of_bound : (s : List Bound) (t r : Term) → r ≡ bound_in s t → KeepsSortOfBound s t r
keeps_sort_of_bound s t r h e o a k = subst (λ r. (sorted_term e r ≡ true) × (own_sort r ≡ own_sort t)) (sym h) (sorted-bound_in e s t o a k)
