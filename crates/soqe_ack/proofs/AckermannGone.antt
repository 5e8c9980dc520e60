-- What becomes of a case lacks the predicate.
use Rattle.std.proofs.Common.{◌≡◌, ℕ, Bool, true, false, cond, List, [], ◌∷◌, refl, sym, ◌∙◌, ap}
use Rattle.std.proofs.lemmas.Bool.{and_parts, or_from}
use Rattle.soqe_term.specs.declared.term.Var.{Var}
use Rattle.soqe_term.specs.Sorting.{Sorting, over_var, over_bound}
use Rattle.soqe_form.specs.declared.form.Pred.TheVariants.{Bound}
use Rattle.soqe_form.specs.declared.form.PVar.{PVar}
use Rattle.soqe_form.specs.declared.form.Form.{Form, Ex2}
use Rattle.soqe_form.specs.Boxes.{boxes}
use Rattle.soqe_form.specs.Free.{free_pred}
use Rattle.soqe_form.specs.FreePreds.{has_free}
use Rattle.soqe_form.specs.Sorted.{sorted}
use Rattle.soqe_form.proofs.FreePreds.{has_free-bound}
use Rattle.soqe_norm.specs.Nnf.{nnf}
use Rattle.soqe_psub.proofs.PredSubLaws.{gone_sorted_of}
use Rattle.soqe_ack.specs.Acked.{AreConditions, no_more, no_guard, guard, AreCleared, all_done, replaced, rest, is_used, IsAcked}
use Rattle.soqe_norm.specs.Folds.{any_of, case_form}
use Rattle.soqe_ack.specs.GuardLaws.{sorts_of}
use Rattle.soqe_norm.proofs.Folded.{any_passes, all_pass, has_free-any, has_free-all, sorted-all}
use Rattle.soqe_ack.proofs.GuardParts.{parts-lack}
use Rattle.soqe_ack.proofs.NnfPreds.{has_free-nnf}
use Rattle.soqe_ack.proofs.ParameterNumbers.{parameters-sorts}

module _ (s : Bool) (m : ℕ) (xs : List Var) where
  conditions-lack : {fs cs : List Form} → AreConditions s (Bound m) xs fs cs → any_passes (has_free (Bound m)) cs ≡ false
  conditions-lack no_more = refl
  conditions-lack (no_guard _ k) = conditions-lack k
  conditions-lack (guard {f = f} {c = c} {r = r} {cs = cs} _ g k) = or_from (has_free (Bound m) c) (any_passes (has_free (Bound m)) cs) (parts-lack s (Bound m) xs f c r g).0 (conditions-lack k)

  value-lacks : (b : Bool) (c : Form) → has_free (Bound m) c ≡ false → has_free (Bound m) (cond b c (nnf true c)) ≡ false
  value-lacks true c h = h
  value-lacks false c h = has_free-nnf (Bound m) true c ∙ h

  cleared-lack : (e : Sorting) (value : Form) → has_free (Bound m) value ≡ false → {fs gs : List Form} → AreCleared s (Bound m) xs value fs gs
      → all_pass (sorted (over_bound e m (sorts_of xs))) fs ≡ true → any_passes (has_free (Bound m)) gs ≡ false
  cleared-lack e value v all_done o = refl
  cleared-lack e value v (replaced {f = f} {g = g} {fs = fs} {gs = gs} _ is k) o =
      let os = and_parts (sorted (over_bound e m (sorts_of xs)) f) (all_pass (sorted (over_bound e m (sorts_of xs))) fs) o in
      or_from (has_free (Bound m) g) (any_passes (has_free (Bound m)) gs) (gone_sorted_of (Bound m) xs value f g is v e os.0) (cleared-lack e value v k os.1)
  cleared-lack e value v (rest {f = f} {c = c} {r = r} {fs = fs} {gs = gs} _ g k) o =
      let os = and_parts (sorted (over_bound e m (sorts_of xs)) f) (all_pass (sorted (over_bound e m (sorts_of xs))) fs) o in
      or_from (has_free (Bound m) r) (any_passes (has_free (Bound m)) gs) (parts-lack s (Bound m) xs f c r g).1 (cleared-lack e value v k os.1)

  case-lacks : (vars : List Var) (e : Sorting) (value : Form) → has_free (Bound m) value ≡ false → {fs gs : List Form} → AreCleared s (Bound m) xs value fs gs
      → sorted (over_bound e m (sorts_of xs)) (case_form vars fs) ≡ true → has_free (Bound m) (case_form vars gs) ≡ false
  unfolding boxes
  case-lacks [] e value v {fs = fs} {gs = gs} k o = has_free-all (Bound m) gs ∙ cleared-lack e value v k (sym (sorted-all (over_bound e m (sorts_of xs)) fs) ∙ o)
  case-lacks (x ∷ vars) e value v k o = case-lacks vars (over_var e x.num x.sort) value v k o

pub gone : (s : Bool) (p : PVar) (keep : List ℕ) (vars : List Var) (fs : List Form) (params : List Var) (value form : Form) → IsAcked s p keep vars fs params value form
    → (e : Sorting) → sorted e (Ex2 p (case_form vars fs)) ≡ true → free_pred p.num form ≡ false
unfolding boxes
gone s p keep vars fs params value form a e o =
    ap (free_pred p.num) a.is_form ∙ sym (has_free-bound p.num (case_form vars a.conjuncts))
    ∙ case-lacks s p.num params vars e value
    (ap (has_free (Bound p.num)) a.is_value ∙ value-lacks s p.num params s (any_of a.conditions) (has_free-any (Bound p.num) a.conditions ∙ conditions-lack s p.num params a.conditioned))
    a.cleared (ap (λ r. sorted (over_bound e p.num r) (case_form vars fs)) (parameters-sorts (is_used keep vars fs) p.args params a.parameters) ∙ o)
