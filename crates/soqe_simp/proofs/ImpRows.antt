-- The rows for A -> B.
use Rattle.std.proofs.Common.{◌≡◌, Bool, true, false, not, ◌||◌, ◌&&◌, Some, refl, sym, ◌∙◌, subst, arith}
use Rattle.std.proofs.lemmas.Bool.{or_left}
use Rattle.soqe_number.proofs.Choices.{and_first}
use Rattle.soqe_form.specs.declared.form.Form.{Form, True, False, Not, And, Imp}
use Rattle.soqe_form.specs.Boxes.{boxes}
use Rattle.soqe_form.specs.Truth.{truth}
use Rattle.soqe_form.specs.Free.{free, free_pred}
use Rattle.soqe_form.specs.Sorted.{sorted}
use Rattle.soqe_form.specs.Same.{same, is_true, is_false}
use Rattle.soqe_form.proofs.SameCases.{at-true, at-false}
use Rattle.soqe_form.proofs.SameTruth.{truth-same}
use Rattle.soqe_simp.specs.Rows.{true_implies, false_implies, implies_true, implies_false, implies_itself, implies_implication, implies_negation}
use Rattle.soqe_simp.specs.Shapes.{on_imp, on_not}
use Rattle.soqe_simp.specs.Keeps.{Keeps, RowKeeps}
use Rattle.soqe_simp.proofs.Kept.{node-imp, node-second, node-constant}
use Rattle.soqe_simp.proofs.RowForms.{Some-is, imp-row, on-imp, on-not}

or-one : (b : Bool) → (b || true) ≡ true
or-one true = refl
or-one false = refl

or-zero : (b : Bool) → (b || false) ≡ b
or-zero true = refl
or-zero false = refl

implied : (b c : Bool) → b ≡ c → (not b || c) ≡ true
implied true c e = sym e
implied false c e = refl

and-grouped : (b c d : Bool) → ((b && c) && d) ≡ (b && (c && d))
and-grouped true c d = refl
and-grouped false c d = refl

or-grouped : (b c d : Bool) → ((b || c) || d) ≡ (b || (c || d))
or-grouped true c d = refl
or-grouped false c d = refl

-- two conditions, one after the other, and both at once
both : (b c d : Bool) → (not b || (not c || d)) ≡ (not (b && c) || d)
both true c d = refl
both false c d = refl

opposite : (b c : Bool) → (not b || not c) ≡ not (b && c)
opposite true c = refl
opposite false c = refl

pub true_implies-keeps : RowKeeps true_implies
unfolding boxes
true_implies-keeps = imp-row Keeps (λ a b. is_true a) (λ a b. b) (λ a b c. at-true (λ a. Keeps (Imp a b) b) a c
    (node-second (Imp True b) True b (node-imp True b) (λ w. refl)))

pub false_implies-keeps : RowKeeps false_implies
unfolding boxes
false_implies-keeps = imp-row Keeps (λ a b. is_false a) (λ a b. True) (λ a b c. at-false (λ a. Keeps (Imp a b) True) a c
    (node-constant (Imp False b) False b true (node-imp False b) (λ w. refl)))

pub implies_true-keeps : RowKeeps implies_true
unfolding boxes
implies_true-keeps = imp-row Keeps (λ a b. is_true b) (λ a b. True) (λ a b c. at-true (λ b. Keeps (Imp a b) True) b c
    (node-constant (Imp a True) a True true (node-imp a True) (λ w. or-one (not (truth w a)))))

denied : (a : Form) → Keeps (Imp a False) (Not a)
unfolding boxes
denied a = record {
  truth = λ w. or-zero (not (truth w a));
  shrinks = record {
    sorts = λ e h. and_first (sorted e a) true h;
    free = λ n h. or_left (free n a) false h;
    free_pred = λ n h. or_left (free_pred n a) false h;
    count = omega (arith);
    weight = omega (arith);
  };
}

pub implies_false-keeps : RowKeeps implies_false
unfolding boxes
implies_false-keeps = imp-row Keeps (λ a b. is_false b) (λ a b. Not a) (λ a b c. at-false (λ b. Keeps (Imp a b) (Not a)) b c (denied a))

pub implies_itself-keeps : RowKeeps implies_itself
unfolding boxes
implies_itself-keeps = imp-row Keeps same (λ a b. True) (λ a b c.
    node-constant (Imp a b) a b true (node-imp a b) (λ w. implied (truth w a) (truth w b) (truth-same a b c w)))

joined : (a b c : Form) → Keeps (Imp a (Imp b c)) (Imp (And a b) c)
unfolding boxes
joined a b c = record {
  truth = λ w. both (truth w a) (truth w b) (truth w c);
  shrinks = record {
    sorts = λ e h. and-grouped (sorted e a) (sorted e b) (sorted e c) ∙ h;
    free = λ n h. sym (or-grouped (free n a) (free n b) (free n c)) ∙ h;
    free_pred = λ n h. sym (or-grouped (free_pred n a) (free_pred n b) (free_pred n c)) ∙ h;
    count = omega (arith);
    weight = omega (arith);
  };
}

pub implies_implication-keeps : RowKeeps implies_implication
unfolding boxes
implies_implication-keeps f g h = on-imp (λ f. Keeps f g) (λ a b. on_imp (λ c d. Some (Imp (And a c) d)) b) f g h (λ a b h.
    on-imp (λ b. Keeps (Imp a b) g) (λ c d. Some (Imp (And a c) d)) b g h (λ c d h. subst (Keeps (Imp a (Imp c d))) (Some-is h) (joined a c d)))

apart : (a b : Form) → Keeps (Imp a (Not b)) (Not (And a b))
unfolding boxes
apart a b = record {
  truth = λ w. opposite (truth w a) (truth w b);
  shrinks = record { sorts = λ e h. h; free = λ n h. h; free_pred = λ n h. h; count = omega (arith); weight = omega (arith) };
}

pub implies_negation-keeps : RowKeeps implies_negation
unfolding boxes
implies_negation-keeps f g h = on-imp (λ f. Keeps f g) (λ a b. on_not (λ c. Some (Not (And a c))) b) f g h (λ a b h.
    on-not (λ b. Keeps (Imp a b) g) (λ c. Some (Not (And a c))) b g h (λ c h. subst (Keeps (Imp a (Not c))) (Some-is h) (apart a c)))
