-- A new number for a binder stands in neither the body nor the formula below the binder.
use Rattle.std.proofs.Common.{◌≡◌, ℕ, suc, max, ◌+◌, ◌≤◌, Bool, true, false, eqb, not, ◌||◌, List, [], ◌∷◌, refl, sym, ap, arith}
use Rattle.std.proofs.lemmas.Bool.{ne_eqb, or_from}
use Rattle.soqe_term.specs.declared.term.Var.{Var}
use Rattle.soqe_number.proofs.Choices.{or_none_first, or_none_second}
use Rattle.soqe_term.proofs.Worlds.{first_from-passes}
use Rattle.soqe_form.specs.declared.form.PVar.{PVar}
use Rattle.soqe_form.specs.declared.form.Form.{Form}
use Rattle.soqe_form.specs.FreeVars.{is_among}
use Rattle.soqe_form.specs.Mentions.{mentions, form_above}
use Rattle.soqe_form.specs.MentionsPreds.{mentions_pred, preds_above}
use Rattle.soqe_subst.proofs.PredRenamings.{mentions_pred-above}
use Rattle.soqe_subst.proofs.Renamings.{mentions-above}
use Rattle.soqe_psub.specs.PredSubst.{vars_above, lacks_var, fresh_var, lacks_pred, fresh_pred}

from_not : (b : Bool) → not b ≡ true → b ≡ false
from_not true h = sym h
from_not false h = refl

pub is_among-above : (n : ℕ) (xs : List Var) → vars_above xs ≤ n → is_among xs n ≡ false
is_among-above n [] h = refl
is_among-above n (x ∷ xs) h = or_from (eqb n x.num) (is_among xs n) (ne_eqb n x.num (omega arith)) (is_among-above n xs (omega arith))

pub record IsNew (b f : Form) (n : ℕ) : Type 0 where
  pub not_b : mentions n b ≡ false
  pub not_f : mentions n f ≡ false

pub fresh_var-is : (xs : List Var) (b : Form) (y : Var) (f : Form) → IsNew b f (fresh_var xs b y f)
fresh_var-is xs b y f =
    let last : ℕ = max (vars_above xs) (max (form_above b) (max (suc y.num) (form_above f))) in
    let at_last : lacks_var xs b y f (0 + last) ≡ true =
    ap not (or_from (is_among xs (0 + last)) (mentions (0 + last) b || (eqb (0 + last) y.num || mentions (0 + last) f)) (is_among-above (0 + last) xs (omega arith))
    (or_from (mentions (0 + last) b) (eqb (0 + last) y.num || mentions (0 + last) f) (mentions-above (0 + last) b (omega arith))
    (or_from (eqb (0 + last) y.num) (mentions (0 + last) f) (ne_eqb (0 + last) y.num (omega arith)) (mentions-above (0 + last) f (omega arith))))) in
    let n : ℕ = fresh_var xs b y f in
    let none : (is_among xs n || (mentions n b || (eqb n y.num || mentions n f))) ≡ false =
    from_not (is_among xs n || (mentions n b || (eqb n y.num || mentions n f))) (first_from-passes (lacks_var xs b y f) 0 last at_last) in
    let others : (mentions n b || (eqb n y.num || mentions n f)) ≡ false = or_none_second (is_among xs n) (mentions n b || (eqb n y.num || mentions n f)) none in
    record {
      not_b = or_none_first (mentions n b) (eqb n y.num || mentions n f) others;
      not_f = or_none_second (eqb n y.num) (mentions n f) (or_none_second (mentions n b) (eqb n y.num || mentions n f) others);
    }

pub record IsNewPred (b f : Form) (n : ℕ) : Type 0 where
  pub not_b : mentions_pred n b ≡ false
  pub not_f : mentions_pred n f ≡ false

pub fresh_pred-is : (b : Form) (p : PVar) (f : Form) → IsNewPred b f (fresh_pred b p f)
fresh_pred-is b p f =
    let last : ℕ = max (preds_above b) (max (suc p.num) (preds_above f)) in
    let at_last : lacks_pred b p f (0 + last) ≡ true =
    ap not (or_from (mentions_pred (0 + last) b) (eqb (0 + last) p.num || mentions_pred (0 + last) f) (mentions_pred-above (0 + last) b (omega arith))
    (or_from (eqb (0 + last) p.num) (mentions_pred (0 + last) f) (ne_eqb (0 + last) p.num (omega arith)) (mentions_pred-above (0 + last) f (omega arith)))) in
    let n : ℕ = fresh_pred b p f in
    let none : (mentions_pred n b || (eqb n p.num || mentions_pred n f)) ≡ false =
    from_not (mentions_pred n b || (eqb n p.num || mentions_pred n f)) (first_from-passes (lacks_pred b p f) 0 last at_last) in
    record {
      not_b = or_none_first (mentions_pred n b) (eqb n p.num || mentions_pred n f) none;
      not_f = or_none_second (eqb n p.num) (mentions_pred n f) (or_none_second (mentions_pred n b) (eqb n p.num || mentions_pred n f) none);
    }
