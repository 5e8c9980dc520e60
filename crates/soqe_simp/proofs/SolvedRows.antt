-- The rows for a quantifier of a variable whose element one part of the body says.
use Rattle.std.proofs.Common.{◌≡◌, ℕ, ◌<◌, Bool, true, false, cond, eqb, List, [], ◌∷◌, Option, Some, None, sym, ◌∙◌, ap, subst, arith}
use Rattle.std.specs.Option.{option_map}
use Rattle.std.proofs.lemmas.Bool.{eqb-true}
use Rattle.soqe_term.specs.declared.term.Var.{Var}
use Rattle.soqe_term.specs.declared.term.Term.{Term, Var as var}
use Rattle.soqe_term.specs.World.{World, with_var}
use Rattle.soqe_term.specs.Value.{value}
use Rattle.soqe_term.specs.Occurs.{occurs}
use Rattle.soqe_term.specs.Sorting.{Sorting, over_var, own_sort, sorted_term}
use Rattle.soqe_term.specs.Fits.{Fits}
use Rattle.soqe_term.specs.Bindings.{term_or}
use Rattle.soqe_number.proofs.Choices.{by_cases}
use Rattle.soqe_term.proofs.Worlds.{changed-at, value-unused}
use Rattle.soqe_term.proofs.Values.{value-below}
use Rattle.soqe_form.specs.declared.form.Form.{Form, True, False, Equal, Atom, Not, Not', And, And', Or, Or', Imp, Imp', Iff, Iff', All, All', Ex, Ex', All2, All2', Ex2, Ex2', end_of-Form as end, more_of-Form as one}
use Rattle.soqe_form.specs.Boxes.{boxes}
use Rattle.soqe_form.specs.Truth.{truth}
use Rattle.soqe_form.specs.Free.{free}
use Rattle.soqe_form.specs.Sorted.{sorted}
use Rattle.soqe_subst.specs.IsSub.{single}
use Rattle.soqe_form.specs.Mentions.{depth}
use Rattle.soqe_subst.proofs.SubstitutedBlocks.{count-sub}
use Rattle.soqe_subst.proofs.Substitutions.{truth-sub}
use Rattle.soqe_subst.proofs.SubstitutedSorts.{sorted-sub_binding, has_own_sort, is_sorted_single}
use Rattle.soqe_simp.specs.declared.conjuncts.Solved.{Solved}
use Rattle.soqe_simp.specs.Conjuncts.{around, defines, solution, solved, below_alls, solved_not, solved_imp}
use Rattle.soqe_simp.specs.Shapes.{given}
use Rattle.soqe_simp.specs.Rows.{with_solution, solved_some, solved_negation, solved_condition}
use Rattle.soqe_simp.specs.Keeps.{Shrinks, KeepsIn, RowKeepsIn}
use Rattle.soqe_simp.proofs.RowForms.{none_of, when, on-not, on-imp, on-all, on-ex}
use Rattle.soqe_simp.proofs.Options.{mapped, found_first}
use Rattle.soqe_simp.proofs.Points.{some-point, every-point}
use Rattle.soqe_simp.proofs.Vacuous.{beside}
use Rattle.soqe_simp.proofs.Ignoring.{weight-sub, free_pred-sub}
use Rattle.soqe_subst.proofs.SubstitutedNames.{free-sub}
use Rattle.soqe_simp.proofs.Solved.{Says, equation-says, turned-says, left-says, right-says, condition-says, negation-says, some-says, every-says, below_shown, sorted_term-unused}

-- ---- what is found says what x is

solution-says : (ys : List ℕ) (x : Var) (t u : Term) (s : Solved) → solution ys x t u ≡ Some s → Says false ys x (Equal t u) s
solution-says ys x t u s h =
    let P : Solved → Type 0 = Says false ys x (Equal t u) in
    let left : Solved = record { term = u; rest = True } in
    let right : Solved = record { term = t; rest = True } in
    found_first P (given (defines ys x t u) left) (given (defines ys x u t) right) s h
    (λ h. when P (defines ys x t u) left s h (λ d. equation-says ys x t u d))
    (λ h. when P (defines ys x u t) right s h (λ d. turned-says ys x t u d))

pub solved-says : (ys : List ℕ) (x : Var) (f : Form) (s : Solved) → solved ys x f ≡ Some s → Says false ys x f s
unfolding boxes
solved-says ys x True s h = none_of h
solved-says ys x False s h = none_of h
solved-says ys x (Equal t u) s h = solution-says ys x t u s h
solved-says ys x (Atom p ts) s h = none_of h
solved-says ys x (Not' _ (one f end)) s h = none_of h
solved-says ys x (And' _ (one f end) _ (one g end)) s h =
    let P : Solved → Type 0 = Says false ys x (And f g) in
    found_first P (option_map (around (λ r. And r g)) (solved ys x f)) (option_map (around (λ r. And f r)) (solved ys x g)) s h
    (λ h. mapped P (around (λ r. And r g)) (solved ys x f) s h (λ r e. left-says ys x f g r (solved-says ys x f r e)))
    (λ h. mapped P (around (λ r. And f r)) (solved ys x g) s h (λ r e. right-says ys x g f r (solved-says ys x g r e)))
solved-says ys x (Or' _ (one f end) _ (one g end)) s h = none_of h
solved-says ys x (Imp' _ (one f end) _ (one g end)) s h = none_of h
solved-says ys x (Iff' _ (one f end) _ (one g end)) s h = none_of h
solved-says ys x (All' y _ (one f end)) s h = none_of h
solved-says ys x (Ex' y _ (one f end)) s h =
    mapped (Says false ys x (Ex y f)) (around (λ r. Ex y r)) (solved (y.num ∷ ys) x f) s h (λ r e. some-says ys x y f r (solved-says (y.num ∷ ys) x f r e))
solved-says ys x (All2' p _ (one f end)) s h = none_of h
solved-says ys x (Ex2' p _ (one f end)) s h = none_of h

-- what a search finds behind binders `all y.` says it for the formula with the binders, if it does for the formula behind them
below_alls-says : (x : Var) (k : List ℕ → Form → Option Solved) → ((ys : List ℕ) (f : Form) (s : Solved) → k ys f ≡ Some s → Says true ys x f s)
    → (ys : List ℕ) (f : Form) (s : Solved) → below_alls k ys f ≡ Some s → Says true ys x f s
unfolding boxes
below_alls-says x k says ys True s h = says ys True s h
below_alls-says x k says ys False s h = says ys False s h
below_alls-says x k says ys (Equal t u) s h = says ys (Equal t u) s h
below_alls-says x k says ys (Atom p ts) s h = says ys (Atom p ts) s h
below_alls-says x k says ys (Not' _ (one f end)) s h = says ys (Not f) s h
below_alls-says x k says ys (And' _ (one f end) _ (one g end)) s h = says ys (And f g) s h
below_alls-says x k says ys (Or' _ (one f end) _ (one g end)) s h = says ys (Or f g) s h
below_alls-says x k says ys (Imp' _ (one f end) _ (one g end)) s h = says ys (Imp f g) s h
below_alls-says x k says ys (Iff' _ (one f end) _ (one g end)) s h = says ys (Iff f g) s h
below_alls-says x k says ys (All' y _ (one f end)) s h =
    mapped (Says true ys x (All y f)) (around (λ r. All y r)) (below_alls k (y.num ∷ ys) f) s h
    (λ r e. every-says ys x y f r (below_alls-says x k says (y.num ∷ ys) f r e))
below_alls-says x k says ys (Ex' y _ (one f end)) s h = says ys (Ex y f) s h
below_alls-says x k says ys (All2' p _ (one f end)) s h = says ys (All2 p f) s h
below_alls-says x k says ys (Ex2' p _ (one f end)) s h = says ys (Ex2 p f) s h

-- ---- the quantifier of x in front of a formula that says what x is

module _ (v : Bool) (x : Var) (f : Form) (s : Solved) (k : Says v [] x f s) where
  -- the term has the value that x gets there
  at_point : (w : World) → (with_var w x.num (value w s.term)).element x.num ≡ value (with_var w x.num (value w s.term)) s.term
  at_point w = changed-at w.element x.num (value w s.term) ∙ sym (value-unused w x.num (value w s.term) s.term k.lacks)

  truth_at_point : (w : World) → truth (with_var w x.num (value w s.term)) f ≡ truth w (with_solution x s)
  truth_at_point w =
      sym (k.agree (with_var w x.num (value w s.term)) (at_point w))
      ∙ sym (truth-sub (depth s.rest) w (single x s.term) s.rest (omega (arith)))

  truth_off_point : (w : World) (b : ℕ) → eqb b (value w s.term) ≡ false → truth (with_var w x.num b) f ≡ v
  truth_off_point w b e =
      k.off (with_var w x.num b) ((λ i. eqb (changed-at w.element x.num b i) (value-unused w x.num b s.term k.lacks i)) ∙ e)

  term_sorted : (e : Sorting) → sorted (over_var e x.num x.sort) f ≡ true → sorted_term e s.term ≡ true
  term_sorted e h = sym (sorted_term-unused e x.num x.sort s.term k.lacks) ∙ k.term_sorts (over_var e x.num x.sort) h

  point_below : (e : Sorting) → sorted (over_var e x.num x.sort) f ≡ true → (w : World) → Fits w e → value w s.term < w.size x.sort
  point_below e h w fit = subst (λ r. value w s.term < w.size r) k.sort (value-below w e s.term fit (term_sorted e h))

  solution_sorted : (e : Sorting) → sorted (over_var e x.num x.sort) f ≡ true → sorted e (with_solution x s) ≡ true
  solution_sorted e h =
      sorted-sub_binding (depth s.rest) e (single x s.term) s.rest (omega (arith)) (has_own_sort x s.term k.sort) (is_sorted_single e x s.term (term_sorted e h))
      (k.sorts (over_var e x.num x.sort) h)

  free_from_term : (n : ℕ) → occurs n s.term ≡ true → cond (eqb n x.num) false (free n f) ≡ true
  free_from_term n q = below_shown (eqb n x.num) (occurs n s.term) (free n f) (k.term_free n) (beside (λ n. occurs n s.term) n x.num k.lacks q)

  free_from_rest : (n y : ℕ) → eqb y x.num ≡ false → free y s.rest ≡ true → eqb n y ≡ true → cond (eqb n x.num) false (free n f) ≡ true
  free_from_rest n y e o q =
      subst (λ m. cond (eqb m x.num) false (free m f) ≡ true) (sym (eqb-true n y q)) (ap (λ b. cond b false (free y f)) e ∙ k.free y o)

  -- a free variable of the result is one of the rest other than x, or is in the term
  solution_free : (n : ℕ) → free n (with_solution x s) ≡ true → cond (eqb n x.num) false (free n f) ≡ true
  solution_free n h =
      free-sub (depth s.rest) n (single x s.term) (cond (eqb n x.num) false (free n f) ≡ true) s.rest (omega (arith))
      (λ y o. by_cases (λ t. occurs n (term_or (var y) t) ≡ true → cond (eqb n x.num) false (free n f) ≡ true) (eqb y.num x.num) (Some s.term) None
      (λ _ q. free_from_term n q) (λ e q. free_from_rest n y.num e o q)) h

  solved_shrinks : Shrinks (All x f) (with_solution x s)
  unfolding boxes
  solved_shrinks = record {
    sorts = solution_sorted;
    free = solution_free;
    free_pred = λ n h. k.free_pred n (sym (free_pred-sub n (depth s.rest) (single x s.term) s.rest) ∙ h);
    count = omega (arith, k.count, count-sub (depth s.rest) (single x s.term) s.rest);
    weight = omega (arith, k.weight, weight-sub (depth s.rest) (single x s.term) s.rest);
  }

some_solved : (x : Var) (f : Form) (s : Solved) → Says false [] x f s → KeepsIn (Ex x f) (with_solution x s)
unfolding boxes
some_solved x f s k =
    let q = solved_shrinks false x f s k in
    record {
      alike = λ e h w fit.
          some-point (w.size x.sort) (value w s.term) (λ a. truth (with_var w x.num a) f) (point_below false x f s k e h w fit) (truth_off_point false x f s k w)
          ∙ truth_at_point false x f s k w;
      shrinks = record { sorts = q.sorts; free = q.free; free_pred = q.free_pred; count = q.count; weight = q.weight };
    }

every_solved : (x : Var) (f : Form) (s : Solved) → Says true [] x f s → KeepsIn (All x f) (with_solution x s)
unfolding boxes
every_solved x f s k = record {
  alike = λ e h w fit.
      every-point (w.size x.sort) (value w s.term) (λ a. truth (with_var w x.num a) f) (point_below true x f s k e h w fit) (truth_off_point true x f s k w)
      ∙ truth_at_point true x f s k w;
  shrinks = solved_shrinks true x f s k;
}

-- ---- the rows

pub solved_some-keeps : RowKeepsIn solved_some
solved_some-keeps f g h = on-ex (λ f. KeepsIn f g) (λ x c. option_map (with_solution x) (solved [] x c)) f g h (λ x c h.
    mapped (KeepsIn (Ex x c)) (with_solution x) (solved [] x c) g h (λ s e. some_solved x c s (solved-says [] x c s e)))

-- a search at ~c and one at c -> d, behind the binders

solved_not-says : (x : Var) (ys : List ℕ) (f : Form) (s : Solved) → solved_not x ys f ≡ Some s → Says true ys x f s
solved_not-says x ys f s h = on-not (λ f. Says true ys x f s) (λ c. option_map (around (λ r. Not r)) (solved ys x c)) f s h (λ c h.
    mapped (Says true ys x (Not c)) (around (λ r. Not r)) (solved ys x c) s h (λ r e. negation-says ys x c r (solved-says ys x c r e)))

pub solved_negation-keeps : RowKeepsIn solved_negation
solved_negation-keeps f g h = on-all (λ f. KeepsIn f g) (λ x f. option_map (with_solution x) (below_alls (solved_not x) [] f)) f g h (λ x f h.
    mapped (KeepsIn (All x f)) (with_solution x) (below_alls (solved_not x) [] f) g h (λ s e.
    every_solved x f s (below_alls-says x (solved_not x) (solved_not-says x) [] f s e)))

solved_imp-says : (x : Var) (ys : List ℕ) (f : Form) (s : Solved) → solved_imp x ys f ≡ Some s → Says true ys x f s
solved_imp-says x ys f s h = on-imp (λ f. Says true ys x f s) (λ c d. option_map (around (λ r. Imp r d)) (solved ys x c)) f s h (λ c d h.
    mapped (Says true ys x (Imp c d)) (around (λ r. Imp r d)) (solved ys x c) s h (λ r e. condition-says ys x c d r (solved-says ys x c r e)))

pub solved_condition-keeps : RowKeepsIn solved_condition
solved_condition-keeps f g h = on-all (λ f. KeepsIn f g) (λ x f. option_map (with_solution x) (below_alls (solved_imp x) [] f)) f g h (λ x f h.
    mapped (KeepsIn (All x f)) (with_solution x) (below_alls (solved_imp x) [] f) g h (λ s e.
    every_solved x f s (below_alls-says x (solved_imp x) (solved_imp-says x) [] f s e)))

-- ---- the sort of the term that is found

pub solved-sort : (x : Var) (f : Form) (s : Solved) → solved [] x f ≡ Some s → own_sort s.term ≡ x.sort
solved-sort x f s e = (solved-says [] x f s e).sort

pub solved_not-sort : (x : Var) (f : Form) (s : Solved) → below_alls (solved_not x) [] f ≡ Some s → own_sort s.term ≡ x.sort
solved_not-sort x f s e = (below_alls-says x (solved_not x) (solved_not-says x) [] f s e).sort

pub solved_imp-sort : (x : Var) (f : Form) (s : Solved) → below_alls (solved_imp x) [] f ≡ Some s → own_sort s.term ≡ x.sort
solved_imp-sort x f s e = (below_alls-says x (solved_imp x) (solved_imp-says x) [] f s e).sort
