-- The rows for ~A and t = u.
use Rattle.std.proofs.Common.{true, false, Some, refl, subst, arith}
use Rattle.soqe_term.specs.Value.{value}
use Rattle.soqe_term.specs.Equal.{equal_terms}
use Rattle.soqe_number.proofs.Choices.{not_twice}
use Rattle.soqe_term.proofs.EqualTerms.{equal_terms-same}
use Rattle.soqe_term.proofs.Worlds.{eqb-self}
use Rattle.soqe_form.specs.declared.form.Form.{Form, True, False, Equal, Not}
use Rattle.soqe_form.specs.Boxes.{boxes}
use Rattle.soqe_form.specs.Truth.{truth}
use Rattle.soqe_form.specs.Same.{is_true, is_false}
use Rattle.soqe_form.proofs.SameCases.{at-true, at-false}
use Rattle.soqe_simp.specs.Rows.{not_true, not_false, not_not, equal_itself}
use Rattle.soqe_simp.specs.Shapes.{on_not}
use Rattle.soqe_simp.specs.Keeps.{Keeps, RowKeeps}
use Rattle.soqe_simp.proofs.Kept.{constant-shrinks}
use Rattle.soqe_simp.proofs.RowForms.{Some-is, not-row, equal-row, on-not}

pub not_true-keeps : RowKeeps not_true
unfolding boxes
not_true-keeps = not-row Keeps is_true (λ a. False) (λ a c. at-true (λ a. Keeps (Not a) False) a c
    (record { truth = λ w. refl; shrinks = constant-shrinks (Not True) false (omega (arith)) }))

pub not_false-keeps : RowKeeps not_false
unfolding boxes
not_false-keeps = not-row Keeps is_false (λ a. True) (λ a c. at-false (λ a. Keeps (Not a) True) a c
    (record { truth = λ w. refl; shrinks = constant-shrinks (Not False) true (omega (arith)) }))

inner : (a : Form) → Keeps (Not (Not a)) a
unfolding boxes
inner a = record {
  truth = λ w. not_twice (truth w a);
  shrinks = record { sorts = λ e h. h; free = λ n h. h; free_pred = λ n h. h; count = omega (arith); weight = omega (arith) };
}

pub not_not-keeps : RowKeeps not_not
unfolding boxes
not_not-keeps f g h = on-not (λ f. Keeps f g) (on_not Some) f g h (λ a h.
    on-not (λ a. Keeps (Not a) g) Some a g h (λ b h. subst (Keeps (Not (Not b))) (Some-is h) (inner b)))

pub equal_itself-keeps : RowKeeps equal_itself
equal_itself-keeps = equal-row Keeps equal_terms (λ s t. True) (λ s t c. subst (λ t. Keeps (Equal s t) True) (equal_terms-same s t c)
    (record { truth = λ w. eqb-self (value w s); shrinks = constant-shrinks (Equal s s) true (omega (arith)) }))
