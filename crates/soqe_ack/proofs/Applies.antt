-- What a try comes to, from what the conjuncts were divided into; and what is known of it.
use Rattle.std.proofs.Common.{◌≡◌, ℕ, Bool, true, false, cond, List, map, Option, Some, None, ◌∙◌, ap, subst}
use Rattle.std.specs.Option.{unwrap_or}
use Rattle.soqe_term.specs.declared.term.Var.{Var}
use Rattle.soqe_form.specs.declared.form.Pred.TheVariants.{Bound}
use Rattle.soqe_form.specs.declared.form.PVar.{PVar}
use Rattle.soqe_form.specs.declared.form.Form.{Form}
use Rattle.soqe_form.specs.Constants.{constant}
use Rattle.soqe_norm.specs.Folds.{all_of, exists_in}
use Rattle.soqe_norm.specs.Nnf.{nnf}
use Rattle.soqe_norm.proofs.Joins.{joined_any}
use Rattle.soqe_ack.specs.declared.applying.Acked.{Acked}
use Rattle.soqe_ack.specs.declared.dividing.Divided.{Divided}
use Rattle.soqe_ack.specs.Acked.{AreParameters, is_used, IsAcked, IsStuck}
use Rattle.soqe_ack.specs.Applied.{IsApplied, AppliedIsAlike, AppliedIsSorted, AppliedLacks}
use Rattle.soqe_ack.specs.Divides.{IsDivision, IsDivided, share_form}
use Rattle.soqe_ack.specs.Tries.{IsTried, positive, negative}
use Rattle.soqe_ack.proofs.AckedSorts.{form-is-sorted}
use Rattle.soqe_ack.proofs.AckermannCases.{ackermann}
use Rattle.soqe_ack.proofs.AckermannGone.{gone}
use Rattle.soqe_ack.proofs.Division.{shares-clear}

module _ (s : Bool) (p : PVar) (keep : List ℕ) (vars : List Var) (fs : List Form) where
  -- the value and the formula by the divided conjuncts
  pub acked-by : (params : List Var) (items : List Form) (o : Option Divided) (d : Divided) (c value joined form : Form) (vs : List Var)
      → AreParameters (is_used keep vars fs) p.args params → IsDivision s (Bound p.num) params items o → items ≡ fs → o ≡ Some d
      → c ≡ unwrap_or d.condition (constant false) → value ≡ cond s c (nnf true c) → joined ≡ all_of (map (share_form (Bound p.num) params value) d.shares.items)
      → form ≡ exists_in vs joined → vs ≡ vars → IsAcked s p keep vars fs params value form
  acked-by params items o d c value joined form vs a k e i is_c is_value is_joined is_form same =
      let k : IsDivided s (Bound p.num) params fs d = subst (λ gs. IsDivided s (Bound p.num) params gs d) e (subst (IsDivision s (Bound p.num) params items) i k) in
      record {
        parameters = a;
        conditions = k.conditions;
        conditioned = k.conditioned;
        is_value = is_value ∙ ap (λ c. cond s c (nnf true c)) (is_c ∙ joined_any k.conditions d.condition k.joined);
        conjuncts = map (share_form (Bound p.num) params value) d.shares.items;
        cleared = shares-clear s (Bound p.num) params value k.shared;
        is_form = is_form ∙ (λ j. exists_in (same j) (is_joined j));
      }

  -- where a conjunct stands in the way
  pub stuck-by : (params : List Var) (items : List Form) (o : Option Divided) → IsDivision s (Bound p.num) params items o → items ≡ fs → o ≡ None → IsStuck s (Bound p.num) fs
  stuck-by params items o k e i = subst (IsStuck s (Bound p.num)) e (subst (IsDivision s (Bound p.num) params items) i k)

  pub applied-alike : (r : Option Acked) → IsApplied s p keep vars fs r → AppliedIsAlike p vars fs r
  applied-alike None h = tt
  applied-alike (Some a) h = ackermann s p keep vars fs a.params a.value a.form h

  pub applied-sorted : (r : Option Acked) → IsApplied s p keep vars fs r → AppliedIsSorted p vars fs r
  applied-sorted None h = tt
  applied-sorted (Some a) h = form-is-sorted s p keep vars fs a.params a.value a.form h

  pub applied-lacks : (r : Option Acked) → IsApplied s p keep vars fs r → AppliedLacks p vars fs r
  applied-lacks None h = tt
  applied-lacks (Some a) h = gone s p keep vars fs a.params a.value a.form h

-- what the try of a sign comes to, whichever the sign is
pub acked-of : {p : PVar} {keep : List ℕ} {vars : List Var} {fs : List Form} {s : Bool} {params : List Var} {value form : Form}
    → IsTried p keep vars fs s params value form → IsAcked s p keep vars fs params value form
acked-of (positive a) = a
acked-of (negative _ a) = a

module _ (p : PVar) (keep : List ℕ) (vars : List Var) (fs : List Form) where
  pub tried-first : (o : Option Acked) (a : Acked) → IsApplied true p keep vars fs o → o ≡ Some a → IsTried p keep vars fs true a.params a.value a.form
  tried-first o a h e = positive (subst (IsApplied true p keep vars fs) e h)

  pub tried-second : (o : Option Acked) (a : Acked) → IsStuck true (Bound p.num) fs → IsApplied false p keep vars fs o → o ≡ Some a
      → IsTried p keep vars fs false a.params a.value a.form
  tried-second o a k h e = negative k (subst (IsApplied false p keep vars fs) e h)
