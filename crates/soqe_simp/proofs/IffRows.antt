-- The rows for A <-> B.
use Rattle.std.proofs.Common.{◌≡◌, Bool, true, false, not, refl, sym, ap, arith}
use Rattle.std.proofs.lemmas.Bool.{or_left}
use Rattle.soqe_number.proofs.Choices.{and_first}
use Rattle.soqe_form.specs.declared.form.Form.{Form, True, False, Not, Iff}
use Rattle.soqe_form.specs.Boxes.{boxes}
use Rattle.soqe_form.specs.Truth.{truth, alike}
use Rattle.soqe_form.specs.Free.{free, free_pred}
use Rattle.soqe_form.specs.Sorted.{sorted}
use Rattle.soqe_form.specs.Same.{same, is_true, is_false}
use Rattle.soqe_form.proofs.SameCases.{at-true, at-false}
use Rattle.soqe_form.proofs.SameTruth.{truth-same}
use Rattle.soqe_simp.specs.Rows.{true_iff, iff_true, false_iff, iff_false, iff_itself}
use Rattle.soqe_simp.specs.Keeps.{Keeps, RowKeeps}
use Rattle.soqe_simp.proofs.Kept.{node-iff, node-first, node-second, node-constant}
use Rattle.soqe_simp.proofs.RowForms.{iff-row}

with-true : (b : Bool) → alike b true ≡ b
with-true true = refl
with-true false = refl

with-false : (b : Bool) → alike b false ≡ not b
with-false true = refl
with-false false = refl

with-equal : (b c : Bool) → b ≡ c → alike b c ≡ true
with-equal true c e = sym e
with-equal false c e = ap not (sym e)

pub true_iff-keeps : RowKeeps true_iff
unfolding boxes
true_iff-keeps = iff-row Keeps (λ a b. is_true a) (λ a b. b) (λ a b c. at-true (λ a. Keeps (Iff a b) b) a c
    (node-second (Iff True b) True b (node-iff True b) (λ w. refl)))

pub iff_true-keeps : RowKeeps iff_true
unfolding boxes
iff_true-keeps = iff-row Keeps (λ a b. is_true b) (λ a b. a) (λ a b c. at-true (λ b. Keeps (Iff a b) a) b c
    (node-first (Iff a True) a True (node-iff a True) (λ w. with-true (truth w a))))

left_denied : (b : Form) → Keeps (Iff False b) (Not b)
unfolding boxes
left_denied b = record {
  truth = λ w. refl;
  shrinks = record { sorts = λ e h. h; free = λ n h. h; free_pred = λ n h. h; count = omega (arith); weight = omega (arith) };
}

pub false_iff-keeps : RowKeeps false_iff
unfolding boxes
false_iff-keeps = iff-row Keeps (λ a b. is_false a) (λ a b. Not b) (λ a b c. at-false (λ a. Keeps (Iff a b) (Not b)) a c (left_denied b))

right_denied : (a : Form) → Keeps (Iff a False) (Not a)
unfolding boxes
right_denied a = record {
  truth = λ w. with-false (truth w a);
  shrinks = record {
    sorts = λ e h. and_first (sorted e a) true h;
    free = λ n h. or_left (free n a) false h;
    free_pred = λ n h. or_left (free_pred n a) false h;
    count = omega (arith);
    weight = omega (arith);
  };
}

pub iff_false-keeps : RowKeeps iff_false
unfolding boxes
iff_false-keeps = iff-row Keeps (λ a b. is_false b) (λ a b. Not a) (λ a b c. at-false (λ b. Keeps (Iff a b) (Not a)) b c (right_denied a))

pub iff_itself-keeps : RowKeeps iff_itself
unfolding boxes
iff_itself-keeps = iff-row Keeps same (λ a b. True) (λ a b c.
    node-constant (Iff a b) a b true (node-iff a b) (λ w. with-equal (truth w a) (truth w b) (truth-same a b c w)))
