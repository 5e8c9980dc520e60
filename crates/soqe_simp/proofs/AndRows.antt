-- The rows for A & B.
use Rattle.std.proofs.Common.{◌≡◌, Bool, true, false, not, ◌&&◌, refl, sym, ap}
use Rattle.soqe_form.specs.declared.form.Form.{True, False, Not, And}
use Rattle.soqe_form.specs.Boxes.{boxes}
use Rattle.soqe_form.specs.Truth.{truth}
use Rattle.soqe_form.specs.Same.{same, is_true, is_false, is_not}
use Rattle.soqe_form.proofs.SameCases.{at-true, at-false, at-not}
use Rattle.soqe_form.proofs.SameTruth.{truth-same}
use Rattle.soqe_simp.specs.Rows.{true_and, and_true, false_and, and_false, and_same, and_opposite, opposite_and}
use Rattle.soqe_simp.specs.Keeps.{Keeps, RowKeeps}
use Rattle.soqe_simp.proofs.Kept.{node-and, node-first, node-second, node-constant}
use Rattle.soqe_simp.proofs.RowForms.{and-row}

and-one : (b : Bool) → (b && true) ≡ b
and-one true = refl
and-one false = refl

and-zero : (b : Bool) → (b && false) ≡ false
and-zero true = refl
and-zero false = refl

and-equal : (b c : Bool) → b ≡ c → (b && c) ≡ b
and-equal true c e = sym e
and-equal false c e = refl

and-turned : (b c : Bool) → b ≡ c → (b && not c) ≡ false
and-turned true c e = ap not (sym e)
and-turned false c e = refl

turned-and : (b c : Bool) → b ≡ c → (not b && c) ≡ false
turned-and true c e = refl
turned-and false c e = sym e

pub true_and-keeps : RowKeeps true_and
unfolding boxes
true_and-keeps = and-row Keeps (λ a b. is_true a) (λ a b. b) (λ a b c. at-true (λ a. Keeps (And a b) b) a c
    (node-second (And True b) True b (node-and True b) (λ w. refl)))

pub and_true-keeps : RowKeeps and_true
unfolding boxes
and_true-keeps = and-row Keeps (λ a b. is_true b) (λ a b. a) (λ a b c. at-true (λ b. Keeps (And a b) a) b c
    (node-first (And a True) a True (node-and a True) (λ w. and-one (truth w a))))

pub false_and-keeps : RowKeeps false_and
unfolding boxes
false_and-keeps = and-row Keeps (λ a b. is_false a) (λ a b. False) (λ a b c. at-false (λ a. Keeps (And a b) False) a c
    (node-constant (And False b) False b false (node-and False b) (λ w. refl)))

pub and_false-keeps : RowKeeps and_false
unfolding boxes
and_false-keeps = and-row Keeps (λ a b. is_false b) (λ a b. False) (λ a b c. at-false (λ b. Keeps (And a b) False) b c
    (node-constant (And a False) a False false (node-and a False) (λ w. and-zero (truth w a))))

pub and_same-keeps : RowKeeps and_same
unfolding boxes
and_same-keeps = and-row Keeps same (λ a b. a) (λ a b c.
    node-first (And a b) a b (node-and a b) (λ w. and-equal (truth w a) (truth w b) (truth-same a b c w)))

pub and_opposite-keeps : RowKeeps and_opposite
unfolding boxes
and_opposite-keeps = and-row Keeps (λ a b. is_not (same a) b) (λ a b. False) (λ a b c. at-not (λ b. Keeps (And a b) False) (same a) b c (λ d e.
    node-constant (And a (Not d)) a (Not d) false (node-and a (Not d)) (λ w. and-turned (truth w a) (truth w d) (truth-same a d e w))))

pub opposite_and-keeps : RowKeeps opposite_and
unfolding boxes
opposite_and-keeps = and-row Keeps (λ a b. is_not (λ c. same c b) a) (λ a b. False) (λ a b c. at-not (λ a. Keeps (And a b) False) (λ c. same c b) a c (λ d e.
    node-constant (And (Not d) b) (Not d) b false (node-and (Not d) b) (λ w. turned-and (truth w d) (truth w b) (truth-same d b e w))))
