-- What a step keeps: what each row of the table keeps.
use Rattle.std.proofs.Common.{◌≡◌, ℕ, suc, List, [], ◌∷◌, Option, Some}
use Rattle.std.specs.Option.{option_map}
use Rattle.soqe_form.specs.declared.form.Form.{Form}
use Rattle.soqe_simp.specs.declared.rewriting.Rewritten.{Rewritten}
use Rattle.soqe_simp.specs.Rows.{not_true, not_false, not_not, equal_itself, true_and, and_true, false_and, and_false, and_same, and_opposite, opposite_and, true_or, or_true, false_or, or_false, or_same, or_opposite, opposite_or, not_or, or_not, true_implies, false_implies, implies_true, implies_false, implies_itself, implies_implication, implies_negation, true_iff, iff_true, false_iff, iff_false, iff_itself, unused_variable, unused_predicate, solved_some, solved_negation, solved_condition, rows}
use Rattle.soqe_simp.specs.Step.{by_row, first_row, step}
use Rattle.soqe_simp.specs.Keeps.{KeepsIn, RowKeeps, RowKeepsIn}
use Rattle.soqe_simp.proofs.Kept.{keeps-in}
use Rattle.soqe_simp.proofs.RowForms.{none_of}
use Rattle.soqe_simp.proofs.Options.{mapped, found_first}
use Rattle.soqe_simp.proofs.NotRows.{not_true-keeps, not_false-keeps, not_not-keeps, equal_itself-keeps}
use Rattle.soqe_simp.proofs.AndRows.{true_and-keeps, and_true-keeps, false_and-keeps, and_false-keeps, and_same-keeps, and_opposite-keeps, opposite_and-keeps}
use Rattle.soqe_simp.proofs.OrRows.{true_or-keeps, or_true-keeps, false_or-keeps, or_false-keeps, or_same-keeps, or_opposite-keeps, opposite_or-keeps, not_or-keeps, or_not-keeps}
use Rattle.soqe_simp.proofs.ImpRows.{true_implies-keeps, false_implies-keeps, implies_true-keeps, implies_false-keeps, implies_itself-keeps, implies_implication-keeps, implies_negation-keeps}
use Rattle.soqe_simp.proofs.IffRows.{true_iff-keeps, iff_true-keeps, false_iff-keeps, iff_false-keeps, iff_itself-keeps}
use Rattle.soqe_simp.proofs.Vacuous.{unused_variable-keeps, unused_predicate-keeps}
use Rattle.soqe_simp.proofs.SolvedRows.{solved_some-keeps, solved_negation-keeps, solved_condition-keeps}

-- each row of a table keeps the truth
data Keeping : List (Form → Option Form) → Type 1 where
  none : Keeping []
  more : (row : Form → Option Form) (table : List (Form → Option Form)) → RowKeepsIn row → Keeping table → Keeping (row ∷ table)

first_row-keeps : (n : ℕ) (table : List (Form → Option Form)) → Keeping table → (f : Form) (r : Rewritten) → first_row n table f ≡ Some r → KeepsIn f r.form
first_row-keeps n _ none f r h = none_of h
first_row-keeps n _ (more row table k keeping) f r h = found_first (λ r. KeepsIn f r.form) (option_map (by_row n) (row f)) (first_row (suc n) table f) r h
    (λ h. mapped (λ r. KeepsIn f r.form) (by_row n) (row f) r h (λ g h. k f g h))
    (first_row-keeps (suc n) table keeping f r)

-- a row that keeps the truth in every world
everywhere : (row : Form → Option Form) (table : List (Form → Option Form)) → RowKeeps row → Keeping table → Keeping (row ∷ table)
everywhere row table k keeping = more row table (λ f g h. keeps-in f g (k f g h)) keeping

rows-keep : Keeping rows
rows-keep =
    (everywhere not_true _ not_true-keeps
    (everywhere not_false _ not_false-keeps
    (everywhere not_not _ not_not-keeps
    (everywhere equal_itself _ equal_itself-keeps
    (everywhere true_and _ true_and-keeps
    (everywhere and_true _ and_true-keeps
    (everywhere false_and _ false_and-keeps
    (everywhere and_false _ and_false-keeps
    (everywhere and_same _ and_same-keeps
    (everywhere and_opposite _ and_opposite-keeps
    (everywhere opposite_and _ opposite_and-keeps
    (everywhere true_or _ true_or-keeps
    (everywhere or_true _ or_true-keeps
    (everywhere false_or _ false_or-keeps
    (everywhere or_false _ or_false-keeps
    (everywhere or_same _ or_same-keeps
    (everywhere or_opposite _ or_opposite-keeps
    (everywhere opposite_or _ opposite_or-keeps
    (everywhere not_or _ not_or-keeps
    (everywhere or_not _ or_not-keeps
    (everywhere true_implies _ true_implies-keeps
    (everywhere false_implies _ false_implies-keeps
    (everywhere implies_true _ implies_true-keeps
    (everywhere implies_false _ implies_false-keeps
    (everywhere implies_itself _ implies_itself-keeps
    (everywhere implies_implication _ implies_implication-keeps
    (everywhere implies_negation _ implies_negation-keeps
    (everywhere true_iff _ true_iff-keeps
    (everywhere iff_true _ iff_true-keeps
    (everywhere false_iff _ false_iff-keeps
    (everywhere iff_false _ iff_false-keeps
    (everywhere iff_itself _ iff_itself-keeps
    (more unused_variable _ unused_variable-keeps
    (everywhere unused_predicate _ unused_predicate-keeps
    (more solved_some _ solved_some-keeps
    (more solved_negation _ solved_negation-keeps
    (more solved_condition _ solved_condition-keeps none)))))))))))))))))))))))))))))))))))))

pub step-keeps : (f : Form) (r : Rewritten) → step f ≡ Some r → KeepsIn f r.form
step-keeps f r h = first_row-keeps 1 rows rows-keep f r h
