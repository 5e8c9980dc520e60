-- The rows for A | B.
use Rattle.std.proofs.Common.{◌≡◌, Bool, true, false, not, ◌||◌, ◌&&◌, Some, refl, sym, ◌∙◌, ap, subst, arith}
use Rattle.soqe_form.specs.declared.form.Form.{Form, True, False, Not, Or, Imp}
use Rattle.soqe_form.specs.Boxes.{boxes}
use Rattle.soqe_form.specs.Truth.{truth}
use Rattle.soqe_form.specs.Free.{free, free_pred}
use Rattle.soqe_form.specs.Sorted.{sorted}
use Rattle.soqe_form.specs.Same.{same, is_true, is_false, is_not}
use Rattle.soqe_form.proofs.SameCases.{at-true, at-false, at-not}
use Rattle.soqe_form.proofs.SameTruth.{truth-same}
use Rattle.soqe_simp.specs.Rows.{true_or, or_true, false_or, or_false, or_same, or_opposite, opposite_or, not_or, or_not}
use Rattle.soqe_simp.specs.Shapes.{on_not}
use Rattle.soqe_simp.specs.Keeps.{Keeps, RowKeeps}
use Rattle.soqe_simp.proofs.Kept.{node-or, node-first, node-second, node-constant}
use Rattle.soqe_simp.proofs.RowForms.{Some-is, or-row, on-or, on-not}

or-one : (b : Bool) → (b || true) ≡ true
or-one true = refl
or-one false = refl

or-zero : (b : Bool) → (b || false) ≡ b
or-zero true = refl
or-zero false = refl

or-equal : (b c : Bool) → b ≡ c → (b || c) ≡ b
or-equal true c e = refl
or-equal false c e = sym e

or-turned : (b c : Bool) → b ≡ c → (b || not c) ≡ true
or-turned true c e = refl
or-turned false c e = ap not (sym e)

turned-or : (b c : Bool) → b ≡ c → (not b || c) ≡ true
turned-or true c e = sym e
turned-or false c e = refl

pub or-exchanged : (b c : Bool) → (b || c) ≡ (c || b)
or-exchanged true true = refl
or-exchanged true false = refl
or-exchanged false true = refl
or-exchanged false false = refl

pub and-exchanged : (b c : Bool) → (b && c) ≡ (c && b)
and-exchanged true true = refl
and-exchanged true false = refl
and-exchanged false true = refl
and-exchanged false false = refl

pub true_or-keeps : RowKeeps true_or
unfolding boxes
true_or-keeps = or-row Keeps (λ a b. is_true a) (λ a b. True) (λ a b c. at-true (λ a. Keeps (Or a b) True) a c
    (node-constant (Or True b) True b true (node-or True b) (λ w. refl)))

pub or_true-keeps : RowKeeps or_true
unfolding boxes
or_true-keeps = or-row Keeps (λ a b. is_true b) (λ a b. True) (λ a b c. at-true (λ b. Keeps (Or a b) True) b c
    (node-constant (Or a True) a True true (node-or a True) (λ w. or-one (truth w a))))

pub false_or-keeps : RowKeeps false_or
unfolding boxes
false_or-keeps = or-row Keeps (λ a b. is_false a) (λ a b. b) (λ a b c. at-false (λ a. Keeps (Or a b) b) a c
    (node-second (Or False b) False b (node-or False b) (λ w. refl)))

pub or_false-keeps : RowKeeps or_false
unfolding boxes
or_false-keeps = or-row Keeps (λ a b. is_false b) (λ a b. a) (λ a b c. at-false (λ b. Keeps (Or a b) a) b c
    (node-first (Or a False) a False (node-or a False) (λ w. or-zero (truth w a))))

pub or_same-keeps : RowKeeps or_same
unfolding boxes
or_same-keeps = or-row Keeps same (λ a b. a) (λ a b c.
    node-first (Or a b) a b (node-or a b) (λ w. or-equal (truth w a) (truth w b) (truth-same a b c w)))

pub or_opposite-keeps : RowKeeps or_opposite
unfolding boxes
or_opposite-keeps = or-row Keeps (λ a b. is_not (same a) b) (λ a b. True) (λ a b c. at-not (λ b. Keeps (Or a b) True) (same a) b c (λ d e.
    node-constant (Or a (Not d)) a (Not d) true (node-or a (Not d)) (λ w. or-turned (truth w a) (truth w d) (truth-same a d e w))))

pub opposite_or-keeps : RowKeeps opposite_or
unfolding boxes
opposite_or-keeps = or-row Keeps (λ a b. is_not (λ c. same c b) a) (λ a b. True) (λ a b c. at-not (λ a. Keeps (Or a b) True) (λ c. same c b) a c (λ d e.
    node-constant (Or (Not d) b) (Not d) b true (node-or (Not d) b) (λ w. turned-or (truth w d) (truth w b) (truth-same d b e w))))

left : (a b : Form) → Keeps (Or (Not a) b) (Imp a b)
unfolding boxes
left a b = record {
  truth = λ w. refl;
  shrinks = record { sorts = λ e h. h; free = λ n h. h; free_pred = λ n h. h; count = omega (arith); weight = omega (arith) };
}

pub not_or-keeps : RowKeeps not_or
unfolding boxes
not_or-keeps f g h = on-or (λ f. Keeps f g) (λ a b. on_not (λ c. Some (Imp c b)) a) f g h (λ a b h.
    on-not (λ a. Keeps (Or a b) g) (λ c. Some (Imp c b)) a g h (λ c h. subst (Keeps (Or (Not c) b)) (Some-is h) (left c b)))

right : (a b : Form) → Keeps (Or a (Not b)) (Imp b a)
unfolding boxes
right a b = record {
  truth = λ w. or-exchanged (truth w a) (not (truth w b));
  shrinks = record {
    sorts = λ e h. and-exchanged (sorted e b) (sorted e a) ∙ h;
    free = λ n h. or-exchanged (free n a) (free n b) ∙ h;
    free_pred = λ n h. or-exchanged (free_pred n a) (free_pred n b) ∙ h;
    count = omega (arith);
    weight = omega (arith);
  };
}

pub or_not-keeps : RowKeeps or_not
unfolding boxes
or_not-keeps f g h = on-or (λ f. Keeps f g) (λ a b. on_not (λ c. Some (Imp c a)) b) f g h (λ a b h.
    on-not (λ b. Keeps (Or a b) g) (λ c. Some (Imp c a)) b g h (λ c h. subst (Keeps (Or a (Not c))) (Some-is h) (right a c)))
