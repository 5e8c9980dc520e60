-- What a row gives of a formula whose children are simple: a formula that is simple, one with simple children, one whose
-- first child has simple children, or any.
use Rattle.std.proofs.Common.{◌≡◌, ℕ, suc, Bool, true, false, not, List, [], ◌∷◌, Option, Some, refl, sym, ◌∙◌, subst}
use Rattle.std.specs.Option.{option_map}
use Rattle.soqe_term.specs.Equal.{equal_terms}
use Rattle.soqe_form.specs.declared.form.Form.{Form, True, False, Not, And, Imp}
use Rattle.soqe_form.specs.Boxes.{boxes}
use Rattle.soqe_form.specs.Free.{free, free_pred}
use Rattle.soqe_form.specs.Same.{same, is_true, is_false, is_not}
use Rattle.soqe_form.proofs.SameCases.{never}
use Rattle.soqe_simp.specs.declared.rewriting.Rewritten.{Rewritten}
use Rattle.soqe_simp.specs.Shapes.{on_not, on_imp, given}
use Rattle.soqe_simp.specs.Rows.{not_true, not_false, not_not, equal_itself, true_and, and_true, false_and, and_false, and_same, and_opposite, opposite_and, true_or, or_true, false_or, or_false, or_same, or_opposite, opposite_or, not_or, or_not, true_implies, false_implies, implies_true, implies_false, implies_itself, implies_implication, implies_negation, true_iff, iff_true, false_iff, iff_false, iff_itself, unused_variable, unused_predicate, solved_some, solved_negation, solved_condition, rows}
use Rattle.soqe_simp.specs.Step.{by_row, first_row, step}
use Rattle.soqe_simp.specs.Ready.{Children, IsSimple, is_again, is_below, is_anew, IsBelow, Ready}
use Rattle.soqe_simp.proofs.Children.{children-simple}
use Rattle.soqe_simp.proofs.Options.{mapped, found_first}
use Rattle.soqe_simp.proofs.RowForms.{Some-is, none_of, when, equal-row, not-row, and-row, or-row, imp-row, iff-row, on-not, on-or, on-imp, on-quantifier, on-block}

opposites : {A : Type 0} (b : Bool) → b ≡ false → b ≡ true → A
opposites b p h = never (sym p ∙ h)

opposites-turned : {A : Type 0} (b : Bool) → b ≡ true → b ≡ false → A
opposites-turned b p h = never (sym h ∙ p)

-- the row ends, or all is to be done again, or some
ends : (n : ℕ) → is_again n ≡ false → is_below n ≡ false → (g : Form) → IsSimple g → Ready n g
ends n p q g s = record { again = opposites (is_again n) p; below = opposites (is_below n) q; ends = λ _ _ _. s }

again : (n : ℕ) → is_again n ≡ true → is_below n ≡ false → (g : Form) → Children IsSimple g → Ready n g
again n p q g s = record { again = λ _. s; below = opposites (is_below n) q; ends = λ h _ _. opposites-turned (is_again n) p h }

below : (n : ℕ) → is_again n ≡ false → is_below n ≡ true → (g : Form) → IsBelow g → Ready n g
below n p q g s = record { again = opposites (is_again n) p; below = λ _. s; ends = λ _ h _. opposites-turned (is_below n) q h }

anew : (n : ℕ) → is_again n ≡ false → is_below n ≡ false → is_anew n ≡ true → (g : Form) → Ready n g
anew n p q r g = record { again = opposites (is_again n) p; below = opposites (is_below n) q; ends = λ _ _ h. opposites-turned (is_anew n) r h }

-- the row with the number n, of formulas with simple children
abbrev pub GivesReady : ℕ → (Form → Option Form) → Type 0
GivesReady n row = (f g : Form) → row f ≡ Some g → Children IsSimple f → Ready n g

not_true-ready : GivesReady 1 not_true
unfolding boxes
not_true-ready = not-row (λ f g. Children IsSimple f → Ready 1 g) is_true (λ a. False) (λ a c k. ends 1 refl refl False refl)

not_false-ready : GivesReady 2 not_false
unfolding boxes
not_false-ready = not-row (λ f g. Children IsSimple f → Ready 2 g) is_false (λ a. True) (λ a c k. ends 2 refl refl True refl)

not_not-ready : GivesReady 3 not_not
unfolding boxes
not_not-ready f g h = on-not (λ f. Children IsSimple f → Ready 3 g) (on_not Some) f g h (λ a h k.
    on-not (λ a. IsSimple a → Ready 3 g) Some a g h (λ b h k. subst (Ready 3) (Some-is h) (ends 3 refl refl b (children-simple (Not b) k))) k)

equal_itself-ready : GivesReady 4 equal_itself
unfolding boxes
equal_itself-ready = equal-row (λ f g. Children IsSimple f → Ready 4 g) equal_terms (λ s t. True) (λ s t c k. ends 4 refl refl True refl)

true_and-ready : GivesReady 5 true_and
unfolding boxes
true_and-ready = and-row (λ f g. Children IsSimple f → Ready 5 g) (λ a b. is_true a) (λ a b. b) (λ a b c k. ends 5 refl refl b k.1)

and_true-ready : GivesReady 6 and_true
unfolding boxes
and_true-ready = and-row (λ f g. Children IsSimple f → Ready 6 g) (λ a b. is_true b) (λ a b. a) (λ a b c k. ends 6 refl refl a k.0)

false_and-ready : GivesReady 7 false_and
unfolding boxes
false_and-ready = and-row (λ f g. Children IsSimple f → Ready 7 g) (λ a b. is_false a) (λ a b. False) (λ a b c k. ends 7 refl refl False refl)

and_false-ready : GivesReady 8 and_false
unfolding boxes
and_false-ready = and-row (λ f g. Children IsSimple f → Ready 8 g) (λ a b. is_false b) (λ a b. False) (λ a b c k. ends 8 refl refl False refl)

and_same-ready : GivesReady 9 and_same
unfolding boxes
and_same-ready = and-row (λ f g. Children IsSimple f → Ready 9 g) (λ a b. same a b) (λ a b. a) (λ a b c k. ends 9 refl refl a k.0)

and_opposite-ready : GivesReady 10 and_opposite
unfolding boxes
and_opposite-ready = and-row (λ f g. Children IsSimple f → Ready 10 g) (λ a b. is_not (same a) b) (λ a b. False) (λ a b c k. ends 10 refl refl False refl)

opposite_and-ready : GivesReady 11 opposite_and
unfolding boxes
opposite_and-ready = and-row (λ f g. Children IsSimple f → Ready 11 g) (λ a b. is_not (λ c. same c b) a) (λ a b. False) (λ a b c k. ends 11 refl refl False refl)

true_or-ready : GivesReady 12 true_or
unfolding boxes
true_or-ready = or-row (λ f g. Children IsSimple f → Ready 12 g) (λ a b. is_true a) (λ a b. True) (λ a b c k. ends 12 refl refl True refl)

or_true-ready : GivesReady 13 or_true
unfolding boxes
or_true-ready = or-row (λ f g. Children IsSimple f → Ready 13 g) (λ a b. is_true b) (λ a b. True) (λ a b c k. ends 13 refl refl True refl)

false_or-ready : GivesReady 14 false_or
unfolding boxes
false_or-ready = or-row (λ f g. Children IsSimple f → Ready 14 g) (λ a b. is_false a) (λ a b. b) (λ a b c k. ends 14 refl refl b k.1)

or_false-ready : GivesReady 15 or_false
unfolding boxes
or_false-ready = or-row (λ f g. Children IsSimple f → Ready 15 g) (λ a b. is_false b) (λ a b. a) (λ a b c k. ends 15 refl refl a k.0)

or_same-ready : GivesReady 16 or_same
unfolding boxes
or_same-ready = or-row (λ f g. Children IsSimple f → Ready 16 g) (λ a b. same a b) (λ a b. a) (λ a b c k. ends 16 refl refl a k.0)

or_opposite-ready : GivesReady 17 or_opposite
unfolding boxes
or_opposite-ready = or-row (λ f g. Children IsSimple f → Ready 17 g) (λ a b. is_not (same a) b) (λ a b. True) (λ a b c k. ends 17 refl refl True refl)

opposite_or-ready : GivesReady 18 opposite_or
unfolding boxes
opposite_or-ready = or-row (λ f g. Children IsSimple f → Ready 18 g) (λ a b. is_not (λ c. same c b) a) (λ a b. True) (λ a b c k. ends 18 refl refl True refl)

not_or-ready : GivesReady 19 not_or
unfolding boxes
not_or-ready f g h = on-or (λ f. Children IsSimple f → Ready 19 g) (λ a b. on_not (λ c. Some (Imp c b)) a) f g h (λ a b h k.
    on-not (λ a. IsSimple a → Ready 19 g) (λ c. Some (Imp c b)) a g h (λ c h s. subst (Ready 19) (Some-is h) (again 19 refl refl (Imp c b) (children-simple (Not c) s, k.1))) k.0)

or_not-ready : GivesReady 20 or_not
unfolding boxes
or_not-ready f g h = on-or (λ f. Children IsSimple f → Ready 20 g) (λ a b. on_not (λ c. Some (Imp c a)) b) f g h (λ a b h k.
    on-not (λ b. IsSimple b → Ready 20 g) (λ c. Some (Imp c a)) b g h (λ c h s. subst (Ready 20) (Some-is h) (again 20 refl refl (Imp c a) (children-simple (Not c) s, k.0))) k.1)

true_implies-ready : GivesReady 21 true_implies
unfolding boxes
true_implies-ready = imp-row (λ f g. Children IsSimple f → Ready 21 g) (λ a b. is_true a) (λ a b. b) (λ a b c k. ends 21 refl refl b k.1)

false_implies-ready : GivesReady 22 false_implies
unfolding boxes
false_implies-ready = imp-row (λ f g. Children IsSimple f → Ready 22 g) (λ a b. is_false a) (λ a b. True) (λ a b c k. ends 22 refl refl True refl)

implies_true-ready : GivesReady 23 implies_true
unfolding boxes
implies_true-ready = imp-row (λ f g. Children IsSimple f → Ready 23 g) (λ a b. is_true b) (λ a b. True) (λ a b c k. ends 23 refl refl True refl)

implies_false-ready : GivesReady 24 implies_false
unfolding boxes
implies_false-ready = imp-row (λ f g. Children IsSimple f → Ready 24 g) (λ a b. is_false b) (λ a b. Not a) (λ a b c k. again 24 refl refl (Not a) k.0)

implies_itself-ready : GivesReady 25 implies_itself
unfolding boxes
implies_itself-ready = imp-row (λ f g. Children IsSimple f → Ready 25 g) (λ a b. same a b) (λ a b. True) (λ a b c k. ends 25 refl refl True refl)

implies_implication-ready : GivesReady 26 implies_implication
unfolding boxes
implies_implication-ready f g h = on-imp (λ f. Children IsSimple f → Ready 26 g) (λ a b. on_imp (λ c d. Some (Imp (And a c) d)) b) f g h (λ a b h k.
    on-imp (λ b. IsSimple b → Ready 26 g) (λ c d. Some (Imp (And a c) d)) b g h (λ c d h s. let p = children-simple (Imp c d) s in
    subst (Ready 26) (Some-is h) (below 26 refl refl (Imp (And a c) d) ((k.0, p.0), p.1))) k.1)

implies_negation-ready : GivesReady 27 implies_negation
unfolding boxes
implies_negation-ready f g h = on-imp (λ f. Children IsSimple f → Ready 27 g) (λ a b. on_not (λ c. Some (Not (And a c))) b) f g h (λ a b h k.
    on-not (λ b. IsSimple b → Ready 27 g) (λ c. Some (Not (And a c))) b g h (λ c h s.
    subst (Ready 27) (Some-is h) (below 27 refl refl (Not (And a c)) (k.0, children-simple (Not c) s))) k.1)

true_iff-ready : GivesReady 28 true_iff
unfolding boxes
true_iff-ready = iff-row (λ f g. Children IsSimple f → Ready 28 g) (λ a b. is_true a) (λ a b. b) (λ a b c k. ends 28 refl refl b k.1)

iff_true-ready : GivesReady 29 iff_true
unfolding boxes
iff_true-ready = iff-row (λ f g. Children IsSimple f → Ready 29 g) (λ a b. is_true b) (λ a b. a) (λ a b c k. ends 29 refl refl a k.0)

false_iff-ready : GivesReady 30 false_iff
unfolding boxes
false_iff-ready = iff-row (λ f g. Children IsSimple f → Ready 30 g) (λ a b. is_false a) (λ a b. Not b) (λ a b c k. again 30 refl refl (Not b) k.1)

iff_false-ready : GivesReady 31 iff_false
unfolding boxes
iff_false-ready = iff-row (λ f g. Children IsSimple f → Ready 31 g) (λ a b. is_false b) (λ a b. Not a) (λ a b c k. again 31 refl refl (Not a) k.0)

iff_itself-ready : GivesReady 32 iff_itself
unfolding boxes
iff_itself-ready = iff-row (λ f g. Children IsSimple f → Ready 32 g) (λ a b. same a b) (λ a b. True) (λ a b c k. ends 32 refl refl True refl)

unused_variable-ready : GivesReady 33 unused_variable
unfolding boxes
unused_variable-ready f g h = on-quantifier (λ f. Children IsSimple f → Ready 33 g) (λ x a. given (not (free x.num a)) a) f g h
    (λ x a h k. when (Ready 33) (not (free x.num a)) a g h (λ c. ends 33 refl refl a k)) (λ x a h k. when (Ready 33) (not (free x.num a)) a g h (λ c. ends 33 refl refl a k))

unused_predicate-ready : GivesReady 34 unused_predicate
unfolding boxes
unused_predicate-ready f g h = on-block (λ f. Children IsSimple f → Ready 34 g) (λ p a. given (not (free_pred p.num a)) a) f g h
    (λ p a h k. when (Ready 34) (not (free_pred p.num a)) a g h (λ c. ends 34 refl refl a k)) (λ p a h k. when (Ready 34) (not (free_pred p.num a)) a g h (λ c. ends 34 refl refl a k))

solved_some-ready : GivesReady 35 solved_some
unfolding boxes
solved_some-ready f g h = λ k. anew 35 refl refl refl g

solved_negation-ready : GivesReady 36 solved_negation
unfolding boxes
solved_negation-ready f g h = λ k. anew 36 refl refl refl g

solved_condition-ready : GivesReady 37 solved_condition
unfolding boxes
solved_condition-ready f g h = λ k. anew 37 refl refl refl g

-- ---- the table

data Giving : ℕ → List (Form → Option Form) → Type 1 where
  none : (n : ℕ) → Giving n []
  more : (n : ℕ) (row : Form → Option Form) (table : List (Form → Option Form)) → GivesReady n row → Giving (suc n) table → Giving n (row ∷ table)

first_row-ready : (n : ℕ) (table : List (Form → Option Form)) → Giving n table → (f : Form) (r : Rewritten) → first_row n table f ≡ Some r → Children IsSimple f → Ready r.row r.form
first_row-ready _ _ (none n) f r h k = none_of h
first_row-ready _ _ (more n row table ready giving) f r h k = found_first (λ r. Ready r.row r.form) (option_map (by_row n) (row f)) (first_row (suc n) table f) r h
    (λ h. mapped (λ r. Ready r.row r.form) (by_row n) (row f) r h (λ g h. ready f g h k))
    (λ h. first_row-ready (suc n) table giving f r h k)

rows-ready : Giving 1 rows
rows-ready =
    (more 1 not_true _ not_true-ready
    (more 2 not_false _ not_false-ready
    (more 3 not_not _ not_not-ready
    (more 4 equal_itself _ equal_itself-ready
    (more 5 true_and _ true_and-ready
    (more 6 and_true _ and_true-ready
    (more 7 false_and _ false_and-ready
    (more 8 and_false _ and_false-ready
    (more 9 and_same _ and_same-ready
    (more 10 and_opposite _ and_opposite-ready
    (more 11 opposite_and _ opposite_and-ready
    (more 12 true_or _ true_or-ready
    (more 13 or_true _ or_true-ready
    (more 14 false_or _ false_or-ready
    (more 15 or_false _ or_false-ready
    (more 16 or_same _ or_same-ready
    (more 17 or_opposite _ or_opposite-ready
    (more 18 opposite_or _ opposite_or-ready
    (more 19 not_or _ not_or-ready
    (more 20 or_not _ or_not-ready
    (more 21 true_implies _ true_implies-ready
    (more 22 false_implies _ false_implies-ready
    (more 23 implies_true _ implies_true-ready
    (more 24 implies_false _ implies_false-ready
    (more 25 implies_itself _ implies_itself-ready
    (more 26 implies_implication _ implies_implication-ready
    (more 27 implies_negation _ implies_negation-ready
    (more 28 true_iff _ true_iff-ready
    (more 29 iff_true _ iff_true-ready
    (more 30 false_iff _ false_iff-ready
    (more 31 iff_false _ iff_false-ready
    (more 32 iff_itself _ iff_itself-ready
    (more 33 unused_variable _ unused_variable-ready
    (more 34 unused_predicate _ unused_predicate-ready
    (more 35 solved_some _ solved_some-ready
    (more 36 solved_negation _ solved_negation-ready
    (more 37 solved_condition _ solved_condition-ready (none 38))))))))))))))))))))))))))))))))))))))

pub step-ready : (f : Form) (r : Rewritten) → step f ≡ Some r → Children IsSimple f → Ready r.row r.form
step-ready f r h k = first_row-ready 1 rows rows-ready f r h k
