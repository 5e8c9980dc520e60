-- What it means that a part of a formula says which element a variable is.
use Rattle.std.proofs.Common.{◌≡◌, ℕ, ◌<◌, ◌≤◌, Bool, true, false, cond, eqb, not, ◌||◌, ◌&&◌, List, ◌∷◌, Some, refl, sym, ◌∙◌, ap, subst, arith}
use Rattle.std.proofs.lemmas.Bool.{eqb-true, and_right, or_left, or_right}
use Rattle.soqe_term.specs.declared.term.Var.{Var}
use Rattle.soqe_term.specs.declared.term.Term.{Term, Var as var}
use Rattle.soqe_term.specs.World.{World, with_var}
use Rattle.soqe_number.specs.Updates.{changed}
use Rattle.soqe_term.specs.Value.{value}
use Rattle.soqe_term.specs.Occurs.{occurs}
use Rattle.soqe_number.specs.Unused.{member}
use Rattle.soqe_term.specs.Equal.{equal_terms}
use Rattle.soqe_number.specs.Finite.{every, some}
use Rattle.soqe_term.specs.Sorting.{Sorting, over_var, own_sort, sorted_term}
use Rattle.soqe_number.proofs.Choices.{and_first, and_second, or_none_first, or_none_second}
use Rattle.soqe_term.proofs.Worlds.{eqb-self, changed-off, agree_changed, value-unused}
use Rattle.soqe_term.proofs.Sortings.{sorted_term-agree}
use Rattle.soqe_term.proofs.EqualTerms.{equal_terms-same}
use Rattle.soqe_number.proofs.Enumerations.{every-from}
use Rattle.soqe_form.specs.declared.form.Form.{Form, True, Equal, Not, And, Imp, All, Ex}
use Rattle.soqe_form.specs.Boxes.{boxes}
use Rattle.soqe_form.specs.Truth.{truth}
use Rattle.soqe_form.specs.Free.{free as free_in, free_pred as free_pred_in}
use Rattle.soqe_form.specs.Sorted.{sorted}
use Rattle.soqe_form.specs.Places.{count_blocks}
use Rattle.soqe_form.proofs.Numbers.{eqb-swap}
use Rattle.soqe_form.proofs.SameCases.{never}
use Rattle.soqe_simp.specs.declared.conjuncts.Solved.{Solved}
use Rattle.soqe_simp.specs.Conjuncts.{around, occurs_one, defines}
use Rattle.soqe_simp.specs.Weight.{weight as weight_of}
use Rattle.soqe_simp.proofs.Points.{some-none}
use Rattle.soqe_simp.proofs.Vacuous.{fails, beside}

-- The formula f says by one of its parts that x is the term t, and r is f without that part. Where x has another value than
-- t, f has the truth v. Below the binders with the numbers ys, which neither bind x nor stand in t.
pub record Says (v : Bool) (ys : List ℕ) (x : Var) (f : Form) (s : Solved) : Type 0 where
  pub agree : (w : World) → w.element x.num ≡ value w s.term → truth w s.rest ≡ truth w f
  pub off : (w : World) → eqb (w.element x.num) (value w s.term) ≡ false → truth w f ≡ v
  pub sort : own_sort s.term ≡ x.sort
  pub lacks : occurs x.num s.term ≡ false
  pub passed : occurs_one ys s.term ≡ false
  pub apart : member x.num ys ≡ false
  pub sorts : (e : Sorting) → sorted e f ≡ true → sorted e s.rest ≡ true
  pub term_sorts : (e : Sorting) → sorted e f ≡ true → sorted_term e s.term ≡ true
  pub free : (n : ℕ) → free_in n s.rest ≡ true → free_in n f ≡ true
  pub term_free : (n : ℕ) → occurs n s.term ≡ true → free_in n f ≡ true
  pub free_pred : (n : ℕ) → free_pred_in n s.rest ≡ true → free_pred_in n f ≡ true
  pub count : count_blocks s.rest ≤ count_blocks f
  pub weight : weight_of s.rest < weight_of f

-- ---- an equation

-- what the test of an equation says
record Defines (ys : List ℕ) (x : Var) (s t : Term) : Type 0 where
  is : var x ≡ s
  sort : own_sort t ≡ x.sort
  lacks : occurs x.num t ≡ false
  passed : occurs_one ys t ≡ false
  apart : member x.num ys ≡ false

defines-is : (ys : List ℕ) (x : Var) (s t : Term) → defines ys x s t ≡ true → Defines ys x s t
defines-is ys x s t h =
    let a : Bool = equal_terms (var x) s in
    let b : Bool = eqb (own_sort t) x.sort in
    let c : Bool = not (occurs x.num t) in
    let d : Bool = not (occurs_one ys t) in
    let m : Bool = not (member x.num ys) in
    let one : (b && (c && (d && m))) ≡ true = and_second a (b && (c && (d && m))) h in
    let two : (c && (d && m)) ≡ true = and_second b (c && (d && m)) one in
    let three : (d && m) ≡ true = and_second c (d && m) two in
    record {
      is = equal_terms-same (var x) s (and_first a (b && (c && (d && m))) h);
      sort = eqb-true (own_sort t) x.sort (and_first b (c && (d && m)) one);
      lacks = fails (occurs x.num t) (and_first c (d && m) two);
      passed = fails (occurs_one ys t) (and_first d m three);
      apart = fails (member x.num ys) (and_second d m three);
    }

left_says : (ys : List ℕ) (x : Var) (t : Term) → Defines ys x (var x) t → Says false ys x (Equal (var x) t) (record { term = t; rest = True })
left_says ys x t d = record {
  agree = λ w e. sym (ap (λ a. eqb a (value w t)) e ∙ eqb-self (value w t));
  off = λ w h. h;
  sort = d.sort;
  lacks = d.lacks;
  passed = d.passed;
  apart = d.apart;
  sorts = λ e h. refl;
  term_sorts = λ e h. and_first (sorted_term e t) (eqb x.sort (own_sort t)) (and_second (sorted_term e (var x)) (sorted_term e t && eqb x.sort (own_sort t)) h);
  free = λ n h. never h;
  term_free = λ n h. or_right (eqb n x.num) (occurs n t) h;
  free_pred = λ n h. never h;
  count = omega (arith);
  weight = omega (arith);
}

right_says : (ys : List ℕ) (x : Var) (t : Term) → Defines ys x (var x) t → Says false ys x (Equal t (var x)) (record { term = t; rest = True })
right_says ys x t d = record {
  agree = λ w e. sym (ap (λ a. eqb (value w t) a) e ∙ eqb-self (value w t));
  off = λ w h. eqb-swap (w.element x.num) (value w t) h;
  sort = d.sort;
  lacks = d.lacks;
  passed = d.passed;
  apart = d.apart;
  sorts = λ e h. refl;
  term_sorts = λ e h. and_first (sorted_term e t) (sorted_term e (var x) && eqb (own_sort t) x.sort) h;
  free = λ n h. never h;
  term_free = λ n h. or_left (occurs n t) (eqb n x.num) h;
  free_pred = λ n h. never h;
  count = omega (arith);
  weight = omega (arith);
}

pub equation-says : (ys : List ℕ) (x : Var) (s t : Term) → defines ys x s t ≡ true → Says false ys x (Equal s t) (record { term = t; rest = True })
equation-says ys x s t h =
    let d = defines-is ys x s t h in
    subst (λ s. Defines ys x s t → Says false ys x (Equal s t) (record { term = t; rest = True })) d.is (left_says ys x t) d

pub turned-says : (ys : List ℕ) (x : Var) (s t : Term) → defines ys x t s ≡ true → Says false ys x (Equal s t) (record { term = s; rest = True })
turned-says ys x s t h =
    let d = defines-is ys x t s h in
    subst (λ t. Defines ys x t s → Says false ys x (Equal s t) (record { term = s; rest = True })) d.is (right_says ys x s) d

-- ---- the formula round a part that says what x is

-- what follows for a part follows for a node with another part, too
either : (b c d : Bool) → (b ≡ true → c ≡ true) → (b || d) ≡ true → (c || d) ≡ true
either true c d h o = or_left c d (h refl)
either false c d h o = or_right c d o

either_right : (b c d : Bool) → (b ≡ true → c ≡ true) → (d || b) ≡ true → (d || c) ≡ true
either_right b c true h o = refl
either_right b c false h o = h o

both : (b c d : Bool) → (b ≡ true → c ≡ true) → (b && d) ≡ true → (c && d) ≡ true
both true c d h o = ap (λ c. c && d) (h refl) ∙ o
both false c d h o = never o

both_right : (b c d : Bool) → (b ≡ true → c ≡ true) → (d && b) ≡ true → (d && c) ≡ true
both_right b c true h o = h o
both_right b c false h o = never o

module _ (ys : List ℕ) (x : Var) (f g : Form) (s : Solved) where
  pub left-says : Says false ys x f s → Says false ys x (And f g) (around (λ r. And r g) s)
  unfolding boxes
  left-says k = record {
    agree = λ w e. ap (λ b. b && truth w g) (k.agree w e);
    off = λ w e. ap (λ b. b && truth w g) (k.off w e);
    sort = k.sort;
    lacks = k.lacks;
    passed = k.passed;
    apart = k.apart;
    sorts = λ e h. both (sorted e f) (sorted e s.rest) (sorted e g) (k.sorts e) h;
    term_sorts = λ e h. k.term_sorts e (and_first (sorted e f) (sorted e g) h);
    free = λ n h. either (free_in n s.rest) (free_in n f) (free_in n g) (k.free n) h;
    term_free = λ n h. or_left (free_in n f) (free_in n g) (k.term_free n h);
    free_pred = λ n h. either (free_pred_in n s.rest) (free_pred_in n f) (free_pred_in n g) (k.free_pred n) h;
    count = omega (arith, k.count);
    weight = omega (arith, k.weight);
  }

  pub right-says : Says false ys x f s → Says false ys x (And g f) (around (λ r. And g r) s)
  unfolding boxes
  right-says k = record {
    agree = λ w e. ap (λ b. truth w g && b) (k.agree w e);
    off = λ w e. and_right (truth w g) (truth w f) (k.off w e);
    sort = k.sort;
    lacks = k.lacks;
    passed = k.passed;
    apart = k.apart;
    sorts = λ e h. both_right (sorted e f) (sorted e s.rest) (sorted e g) (k.sorts e) h;
    term_sorts = λ e h. k.term_sorts e (and_second (sorted e g) (sorted e f) h);
    free = λ n h. either_right (free_in n s.rest) (free_in n f) (free_in n g) (k.free n) h;
    term_free = λ n h. or_right (free_in n g) (free_in n f) (k.term_free n h);
    free_pred = λ n h. either_right (free_pred_in n s.rest) (free_pred_in n f) (free_pred_in n g) (k.free_pred n) h;
    count = omega (arith, k.count);
    weight = omega (arith, k.weight);
  }

  -- a condition that fails off the value makes the implication true there
  pub condition-says : Says false ys x f s → Says true ys x (Imp f g) (around (λ r. Imp r g) s)
  unfolding boxes
  condition-says k = record {
    agree = λ w e. ap (λ b. not b || truth w g) (k.agree w e);
    off = λ w e. ap (λ b. not b || truth w g) (k.off w e);
    sort = k.sort;
    lacks = k.lacks;
    passed = k.passed;
    apart = k.apart;
    sorts = λ e h. both (sorted e f) (sorted e s.rest) (sorted e g) (k.sorts e) h;
    term_sorts = λ e h. k.term_sorts e (and_first (sorted e f) (sorted e g) h);
    free = λ n h. either (free_in n s.rest) (free_in n f) (free_in n g) (k.free n) h;
    term_free = λ n h. or_left (free_in n f) (free_in n g) (k.term_free n h);
    free_pred = λ n h. either (free_pred_in n s.rest) (free_pred_in n f) (free_pred_in n g) (k.free_pred n) h;
    count = omega (arith, k.count);
    weight = omega (arith, k.weight);
  }

-- ~f is true where f is false
pub negation-says : (ys : List ℕ) (x : Var) (f : Form) (s : Solved) → Says false ys x f s → Says true ys x (Not f) (around (λ r. Not r) s)
unfolding boxes
negation-says ys x f s k = record {
  agree = λ w e. ap not (k.agree w e);
  off = λ w e. ap not (k.off w e);
  sort = k.sort;
  lacks = k.lacks;
  passed = k.passed;
  apart = k.apart;
  sorts = k.sorts;
  term_sorts = k.term_sorts;
  free = k.free;
  term_free = k.term_free;
  free_pred = k.free_pred;
  count = k.count;
  weight = omega (arith, k.weight);
}

-- ---- a binder of another variable that is not in the term

-- and below a binder
pub below_shown : (b c d : Bool) → (c ≡ true → d ≡ true) → cond b false c ≡ true → cond b false d ≡ true
below_shown true c d h o = o
below_shown false c d h o = h o

pub sorted_term-unused : (e : Sorting) (z r : ℕ) (t : Term) → occurs z t ≡ false → sorted_term (over_var e z r) t ≡ sorted_term e t
sorted_term-unused e z r t h = sorted_term-agree e (changed e.variable z (Some r)) e.variable e.bound e.bound t (agree_changed (λ n. occurs n t) e.variable z (Some r) h)

module _ (v : Bool) (ys : List ℕ) (x y : Var) (f : Form) (s : Solved) (k : Says v (y.num ∷ ys) x f s) where
  binder_lacks : occurs y.num s.term ≡ false
  binder_lacks = or_none_first (occurs y.num s.term) (occurs_one ys s.term) k.passed

  binder_apart : eqb x.num y.num ≡ false
  binder_apart = or_none_first (eqb x.num y.num) (member x.num ys) k.apart

  -- x and the term have the same values below the binder
  element_below : (w : World) (a : ℕ) → (with_var w y.num a).element x.num ≡ w.element x.num
  element_below w a = changed-off w.element y.num x.num a binder_apart

  value_below : (w : World) (a : ℕ) → value (with_var w y.num a) s.term ≡ value w s.term
  value_below w a = value-unused w y.num a s.term binder_lacks

  agree_below : (w : World) → w.element x.num ≡ value w s.term → (a : ℕ) → truth (with_var w y.num a) s.rest ≡ truth (with_var w y.num a) f
  agree_below w e a = k.agree (with_var w y.num a) (element_below w a ∙ e ∙ sym (value_below w a))

  off_below : (w : World) → eqb (w.element x.num) (value w s.term) ≡ false → (a : ℕ) → truth (with_var w y.num a) f ≡ v
  off_below w e a = k.off (with_var w y.num a) ((λ i. eqb (element_below w a i) (value_below w a i)) ∙ e)

  passed_below : occurs_one ys s.term ≡ false
  passed_below = or_none_second (occurs y.num s.term) (occurs_one ys s.term) k.passed

  apart_below : member x.num ys ≡ false
  apart_below = or_none_second (eqb x.num y.num) (member x.num ys) k.apart

  sorts_below : (e : Sorting) → sorted (over_var e y.num y.sort) f ≡ true → sorted_term e s.term ≡ true
  sorts_below e h = sym (sorted_term-unused e y.num y.sort s.term binder_lacks) ∙ k.term_sorts (over_var e y.num y.sort) h

  free_below : (n : ℕ) → cond (eqb n y.num) false (free_in n s.rest) ≡ true → cond (eqb n y.num) false (free_in n f) ≡ true
  free_below n h = below_shown (eqb n y.num) (free_in n s.rest) (free_in n f) (k.free n) h

  term_free_below : (n : ℕ) → occurs n s.term ≡ true → cond (eqb n y.num) false (free_in n f) ≡ true
  term_free_below n h =
      below_shown (eqb n y.num) (occurs n s.term) (free_in n f) (k.term_free n) (beside (λ n. occurs n s.term) n y.num binder_lacks h)

pub some-says : (ys : List ℕ) (x y : Var) (f : Form) (s : Solved) → Says false (y.num ∷ ys) x f s → Says false ys x (Ex y f) (around (λ r. Ex y r) s)
unfolding boxes
some-says ys x y f s k = record {
  agree = λ w e. λ i. some (w.size y.sort) (λ a. agree_below false ys x y f s k w e a i);
  off = λ w e. some-none (w.size y.sort) (λ a. truth (with_var w y.num a) f) (off_below false ys x y f s k w e);
  sort = k.sort;
  lacks = k.lacks;
  passed = passed_below false ys x y f s k;
  apart = apart_below false ys x y f s k;
  sorts = λ e h. k.sorts (over_var e y.num y.sort) h;
  term_sorts = sorts_below false ys x y f s k;
  free = free_below false ys x y f s k;
  term_free = term_free_below false ys x y f s k;
  free_pred = k.free_pred;
  count = k.count;
  weight = omega (arith, k.weight);
}

pub every-says : (ys : List ℕ) (x y : Var) (f : Form) (s : Solved) → Says true (y.num ∷ ys) x f s → Says true ys x (All y f) (around (λ r. All y r) s)
unfolding boxes
every-says ys x y f s k = record {
  agree = λ w e. λ i. every (w.size y.sort) (λ a. agree_below true ys x y f s k w e a i);
  off = λ w e. every-from (w.size y.sort) (λ a. truth (with_var w y.num a) f) (λ a l. off_below true ys x y f s k w e a);
  sort = k.sort;
  lacks = k.lacks;
  passed = passed_below true ys x y f s k;
  apart = apart_below true ys x y f s k;
  sorts = λ e h. k.sorts (over_var e y.num y.sort) h;
  term_sorts = sorts_below true ys x y f s k;
  free = free_below true ys x y f s k;
  term_free = term_free_below true ys x y f s k;
  free_pred = k.free_pred;
  count = k.count;
  weight = omega (arith, k.weight);
}
