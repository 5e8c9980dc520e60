-- A formula stays well sorted and keeps its truth where it is simplified, and where another one that is the same takes its
-- place.
use Rattle.std.proofs.Common.{◌≡◌, ℕ, true, List, sym, ◌∙◌}
use Rattle.soqe_term.specs.Sorting.{Sorting}
use Rattle.soqe_form.specs.declared.form.Form.{Form}
use Rattle.soqe_form.specs.Alike.{AlikeIn}
use Rattle.soqe_form.specs.Same.{same}
use Rattle.soqe_form.specs.Sorted.{sorted}
use Rattle.soqe_tidy.specs.Tidy.{tidy}
use Rattle.soqe_form.proofs.SameTruth.{truth-same}
use Rattle.soqe_form.proofs.SameSorted.{sorted-same}
use Rattle.soqe_tidy.proofs.Tidied.{same-tidy}
use Rattle.soqe_simp.specs.Simplified.{simplify}
use Rattle.soqe_simp.proofs.Simplifies.{simplify-keeps}
use Rattle.soqe_deriv.specs.Valid.{simplified}

-- f is well sorted by what is known of the names, and has the truth of g
pub record Means (e : Sorting) (f g : Form) : Type 0 where
  pub well : sorted e f ≡ true
  pub alike : AlikeIn e f g

pub means-same : (e : Sorting) (f h g : Form) → same f h ≡ true → Means e h g → Means e f g
means-same e f h g q m = record { well = sorted-same f h q e ∙ m.well; alike = λ w k. truth-same f h q w ∙ m.alike w k }

means-simple : (e : Sorting) (f g : Form) → Means e f g → Means e (simplify f) g
means-simple e f g m = record {
  well = (simplify-keeps f).sorts e m.well;
  alike = λ w k. sym ((simplify-keeps f).alike e m.well w k) ∙ m.alike w k;
}

pub means-simplified : (e : Sorting) (keep : List ℕ) (f g : Form) → Means e f g → Means e (simplified keep f) g
means-simplified e keep f g m = means-same e (tidy keep (simplify f)) (simplify f) g (same-tidy keep (simplify f)) (means-simple e f g m)
