-- Ackermann's lemma for a case: below its variables, the extreme table of each choice of their elements.
use Rattle.std.proofs.Common.{◌≡◌, ℕ, Bool, true, map, List, [], ◌∷◌, sym, ◌∙◌, ap, subst}
use Rattle.soqe_term.specs.declared.term.Var.{Var}
use Rattle.soqe_term.specs.World.{World, with_var, with_bound}
use Rattle.soqe_number.specs.Finite.{product, entry}
use Rattle.soqe_term.specs.Sorting.{Sorting, over_var, over_bound}
use Rattle.soqe_term.specs.Fits.{Fits}
use Rattle.soqe_number.proofs.Choices.{same_test}
use Rattle.soqe_number.proofs.Enumerations.{found, finds, found_list}
use Rattle.soqe_term.proofs.Values.{fits-var}
use Rattle.soqe_form.specs.declared.form.Pred.TheVariants.{Bound}
use Rattle.soqe_form.specs.declared.form.PVar.{PVar}
use Rattle.soqe_form.specs.declared.form.Form.{Form, Ex2}
use Rattle.soqe_form.specs.Alike.{AlikeIn}
use Rattle.soqe_form.specs.Boxes.{boxes}
use Rattle.soqe_form.specs.Sorted.{sorted}
use Rattle.soqe_form.specs.Truth.{truth}
use Rattle.soqe_form.proofs.Tables.{some-table}
use Rattle.soqe_psub.specs.PredSubstLaws.{table}
use Rattle.soqe_ack.specs.Acked.{AreConditions, AreCleared, value_of, is_used, IsAcked}
use Rattle.soqe_norm.specs.Folds.{case_form}
use Rattle.soqe_ack.specs.GuardLaws.{sorts_of, AreDistinct}
use Rattle.soqe_ack.proofs.Ackermann.{one-true, one-back}
use Rattle.soqe_norm.proofs.Folded.{truth-all, sorted-all}
use Rattle.soqe_ack.proofs.ParameterNumbers.{StandInNone, parameters-sorts, parameters-distinct, parameters-nowhere}

-- a table that makes the formula true
record Makes (w : World) (m : ℕ) (f : Form) : Type 0 where
  by : List ℕ → Bool
  passes : truth (with_bound w m by) f ≡ true

module _ (s : Bool) (m : ℕ) (xs : List Var) (distinct : AreDistinct xs) {fs gs cs : List Form} (conds : AreConditions s (Bound m) xs fs cs)
    (cleared : AreCleared s (Bound m) xs (value_of s cs) fs gs) (nowhere : StandInNone xs fs) where
  case-true : (vars : List Var) (w : World) (e : Sorting) → Fits w e → sorted (over_bound e m (sorts_of xs)) (case_form vars fs) ≡ true → (t : List ℕ → Bool)
      → truth (with_bound w m t) (case_form vars fs) ≡ true → truth w (case_form vars gs) ≡ true
  unfolding boxes
  case-true [] w e k o t h =
      truth-all w gs ∙ one-true s m xs distinct w e k conds cleared nowhere (sym (sorted-all (over_bound e m (sorts_of xs)) fs) ∙ o) t (sym (truth-all (with_bound w m t) fs) ∙ h)
  case-true (x ∷ vars) w e k o t h =
      let r = found (w.size x.sort) (λ a. truth (with_bound (with_var w x.num a) m t) (case_form vars fs)) h in
      finds (w.size x.sort) (λ a. truth (with_var w x.num a) (case_form vars gs)) r.at r.below
      (case-true vars (with_var w x.num r.at) (over_var e x.num x.sort) (fits-var w e x.num x.sort r.at r.below k) o t r.passes)

  case-back : (vars : List Var) (w : World) (e : Sorting) → Fits w e → sorted (over_bound e m (sorts_of xs)) (case_form vars fs) ≡ true
      → truth w (case_form vars gs) ≡ true → Makes w m (case_form vars fs)
  unfolding boxes
  case-back [] w e k o h =
      let t : List ℕ → Bool = table w (Bound m) xs (value_of s cs) in
      record { by = t; passes = truth-all (with_bound w m t) fs ∙ one-back s m xs distinct w e k conds cleared nowhere (sym (sorted-all (over_bound e m (sorts_of xs)) fs) ∙ o) (sym (truth-all w gs) ∙ h) }
  case-back (x ∷ vars) w e k o h =
      let r = found (w.size x.sort) (λ a. truth (with_var w x.num a) (case_form vars gs)) h in
      let t = case-back vars (with_var w x.num r.at) (over_var e x.num x.sort) (fits-var w e x.num x.sort r.at r.below k) o r.passes in
      record { by = t.by; passes = finds (w.size x.sort) (λ a. truth (with_bound (with_var w x.num a) m t.by) (case_form vars fs)) r.at r.below t.passes }

pub ackermann : (s : Bool) (p : PVar) (keep : List ℕ) (vars : List Var) (fs : List Form) (params : List Var) (value form : Form) → IsAcked s p keep vars fs params value form
    → (e : Sorting) → sorted e (Ex2 p (case_form vars fs)) ≡ true → AlikeIn e form (Ex2 p (case_form vars fs))
unfolding boxes
ackermann s p keep vars fs params value form a e o w k =
    ap (truth w) a.is_form
    ∙ same_test (truth w (case_form vars a.conjuncts)) (truth w (Ex2 p (case_form vars fs)))
    (λ h. let t = case-back s p.num params distinct a.conditioned cleared nowhere vars w e k o' h in some-table w e p.num p.args t.by (case_form vars fs) k o t.passes)
    (λ h. let t = found_list (product (map w.size p.args)) (λ t. truth (with_bound w p.num (entry (map w.size p.args) t)) (case_form vars fs)) h in
    case-true s p.num params distinct a.conditioned cleared nowhere vars w e k o' (entry (map w.size p.args) t.items) t.passes)
  where
    distinct : AreDistinct params
    distinct = parameters-distinct (is_used keep vars fs) p.args params a.parameters

    nowhere : StandInNone params fs
    nowhere = parameters-nowhere keep vars fs p.args params a.parameters

    cleared : AreCleared s (Bound p.num) params (value_of s a.conditions) fs a.conjuncts
    cleared = subst (λ v. AreCleared s (Bound p.num) params v fs a.conjuncts) a.is_value a.cleared

    o' : sorted (over_bound e p.num (sorts_of params)) (case_form vars fs) ≡ true
    o' = ap (λ r. sorted (over_bound e p.num r) (case_form vars fs)) (parameters-sorts (is_used keep vars fs) p.args params a.parameters) ∙ o
