-- Each kind of formula with a predicate replaced, as the code goes through it.
use Rattle.std.proofs.Common.{◌≡◌, ℕ, max, Bool, true, false, cond, List, refl, sym, ◌∙◌, ap, arith}
use Rattle.soqe_term.specs.declared.term.Var.{Var}
use Rattle.soqe_term.specs.declared.term.Term.{Term}
use Rattle.soqe_term.specs.declared.term.Terms.{Terms}
use Rattle.soqe_form.specs.declared.form.PVar.{PVar}
use Rattle.soqe_form.specs.declared.form.Pred.{Pred}
use Rattle.soqe_form.specs.declared.form.Form.{Form, True, False, Equal, Atom, Not, And, Or, Imp, Iff, All, Ex, All2, Ex2}
use Rattle.soqe_form.specs.Boxes.{boxes}
use Rattle.soqe_form.specs.FreePreds.{hides}
use Rattle.soqe_form.specs.Mentions.{depth}
use Rattle.soqe_subst.specs.PredRenaming.{renamed_pred, renumbered}
use Rattle.soqe_subst.specs.Substitution.{renamed}
use Rattle.soqe_term.specs.Renumber.{numbered}
use Rattle.soqe_subst.proofs.PredRenamings.{depth-renamed_pred}
use Rattle.soqe_subst.proofs.Renamings.{depth-renamed}
use Rattle.soqe_subst.proofs.Substituting.{fuel}
use Rattle.soqe_psub.specs.PredSubst.{IsPredSub, pred_sub, atom_sub, catches_var, fresh_var, catches_pred, fresh_pred, new_pred_binder, new_pred_body}
use Rattle.soqe_psub.specs.Replaces.{ReplacesBelow, ReplacesBelowPred, ReplacesUnlessHidden}

module _ (q : Pred) (xs : List Var) (b : Form) where
  pub replaces-true : IsPredSub q xs b True True
  replaces-true = record { by = λ k h. let o = fuel 0 k h in ap (λ k. pred_sub k q xs b True) (sym o.is) }

  pub replaces-false : IsPredSub q xs b False False
  replaces-false = record { by = λ k h. let o = fuel 0 k h in ap (λ k. pred_sub k q xs b False) (sym o.is) }

  pub replaces-equal : (s t : Term) → IsPredSub q xs b (Equal s t) (Equal s t)
  replaces-equal s t = record { by = λ k h. let o = fuel 0 k h in ap (λ k. pred_sub k q xs b (Equal s t)) (sym o.is) }

  pub replaces-atom : (p : Pred) (ts : Terms) (r : Form) → r ≡ atom_sub q xs b p ts → IsPredSub q xs b (Atom p ts) r
  replaces-atom p ts r e = record { by = λ k h. let o = fuel 0 k h in e ∙ ap (λ k. pred_sub k q xs b (Atom p ts)) (sym o.is) }

  pub replaces-not : (f r : Form) → IsPredSub q xs b f r → IsPredSub q xs b (Not f) (Not r)
  unfolding boxes
  replaces-not f r p = record { by = λ k h. let o = fuel (depth f) k h in ap Not (p.by o.less o.enough) ∙ ap (λ k. pred_sub k q xs b (Not f)) (sym o.is) }

  pub replaces-and : (f g r t : Form) → IsPredSub q xs b f r → IsPredSub q xs b g t → IsPredSub q xs b (And f g) (And r t)
  unfolding boxes
  replaces-and f g r t p s = record {
    by = λ k h. let o = fuel (max (depth f) (depth g)) k h in
        (λ i. And (p.by o.less (omega (arith, o.enough)) i) (s.by o.less (omega (arith, o.enough)) i)) ∙ ap (λ k. pred_sub k q xs b (And f g)) (sym o.is);
  }

  pub replaces-or : (f g r t : Form) → IsPredSub q xs b f r → IsPredSub q xs b g t → IsPredSub q xs b (Or f g) (Or r t)
  unfolding boxes
  replaces-or f g r t p s = record {
    by = λ k h. let o = fuel (max (depth f) (depth g)) k h in
        (λ i. Or (p.by o.less (omega (arith, o.enough)) i) (s.by o.less (omega (arith, o.enough)) i)) ∙ ap (λ k. pred_sub k q xs b (Or f g)) (sym o.is);
  }

  pub replaces-imp : (f g r t : Form) → IsPredSub q xs b f r → IsPredSub q xs b g t → IsPredSub q xs b (Imp f g) (Imp r t)
  unfolding boxes
  replaces-imp f g r t p s = record {
    by = λ k h. let o = fuel (max (depth f) (depth g)) k h in
        (λ i. Imp (p.by o.less (omega (arith, o.enough)) i) (s.by o.less (omega (arith, o.enough)) i)) ∙ ap (λ k. pred_sub k q xs b (Imp f g)) (sym o.is);
  }

  pub replaces-iff : (f g r t : Form) → IsPredSub q xs b f r → IsPredSub q xs b g t → IsPredSub q xs b (Iff f g) (Iff r t)
  unfolding boxes
  replaces-iff f g r t p s = record {
    by = λ k h. let o = fuel (max (depth f) (depth g)) k h in
        (λ i. Iff (p.by o.less (omega (arith, o.enough)) i) (s.by o.less (omega (arith, o.enough)) i)) ∙ ap (λ k. pred_sub k q xs b (Iff f g)) (sym o.is);
  }

  pub replaces-all : (y z : Var) (f r : Form) → ReplacesBelow q xs b y f z r → IsPredSub q xs b (All y f) (All z r)
  unfolding boxes
  replaces-all y z f r p = record {
    by = λ k h. let o = fuel (depth f) k h in (λ i. All (p.binder i) (p.body o.less o.enough i)) ∙ ap (λ k. pred_sub k q xs b (All y f)) (sym o.is);
  }

  pub replaces-ex : (y z : Var) (f r : Form) → ReplacesBelow q xs b y f z r → IsPredSub q xs b (Ex y f) (Ex z r)
  unfolding boxes
  replaces-ex y z f r p = record {
    by = λ k h. let o = fuel (depth f) k h in (λ i. Ex (p.binder i) (p.body o.less o.enough i)) ∙ ap (λ k. pred_sub k q xs b (Ex y f)) (sym o.is);
  }

  chosen_all2 : (c : Bool) (p z : PVar) (f r : Form) → All2 (cond c p z) (cond c f r) ≡ cond c (All2 p f) (All2 z r)
  chosen_all2 true p z f r = refl
  chosen_all2 false p z f r = refl

  chosen_ex2 : (c : Bool) (p z : PVar) (f r : Form) → Ex2 (cond c p z) (cond c f r) ≡ cond c (Ex2 p f) (Ex2 z r)
  chosen_ex2 true p z f r = refl
  chosen_ex2 false p z f r = refl

  pub replaces-all2 : (p z : PVar) (f r : Form) → ReplacesUnlessHidden q xs b p f z r → IsPredSub q xs b (All2 p f) (All2 z r)
  unfolding boxes
  replaces-all2 p z f r s = record {
    by = λ k h. let o = fuel (depth f) k h in
        (λ i. All2 (s.binder i) (s.body o.less o.enough i))
        ∙ chosen_all2 (hides p.num q) p (new_pred_binder q b p f) f (pred_sub o.less q xs b (new_pred_body q b p f))
        ∙ ap (λ k. pred_sub k q xs b (All2 p f)) (sym o.is);
  }

  pub replaces-ex2 : (p z : PVar) (f r : Form) → ReplacesUnlessHidden q xs b p f z r → IsPredSub q xs b (Ex2 p f) (Ex2 z r)
  unfolding boxes
  replaces-ex2 p z f r s = record {
    by = λ k h. let o = fuel (depth f) k h in
        (λ i. Ex2 (s.binder i) (s.body o.less o.enough i))
        ∙ chosen_ex2 (hides p.num q) p (new_pred_binder q b p f) f (pred_sub o.less q xs b (new_pred_body q b p f))
        ∙ ap (λ k. pred_sub k q xs b (Ex2 p f)) (sym o.is);
  }

  -- ---- binders of variables

  pub below-kept : (y : Var) (f r : Form) → catches_var q xs b y f ≡ false → IsPredSub q xs b f r → ReplacesBelow q xs b y f y r
  below-kept y f r c p = record {
    binder = sym (ap (λ c. cond c (numbered y (fresh_var xs b y f)) y) c);
    body = λ k h. p.by k h ∙ sym (ap (λ c. pred_sub k q xs b (cond c (renamed y.num (numbered y (fresh_var xs b y f)) f) f)) c);
  }

  pub below-renamed : (y : Var) (f r : Form) (n : ℕ) → catches_var q xs b y f ≡ true → n ≡ fresh_var xs b y f
      → IsPredSub q xs b (renamed y.num (numbered y n) f) r → ReplacesBelow q xs b y f (numbered y n) r
  below-renamed y f r n c m p = record {
    binder = ap (numbered y) m ∙ sym (ap (λ c. cond c (numbered y (fresh_var xs b y f)) y) c);
    body = λ k h.
        p.by k (omega (arith, depth-renamed y.num (numbered y n) f, h)) ∙ ap (λ n. pred_sub k q xs b (renamed y.num (numbered y n) f)) m
        ∙ sym (ap (λ c. pred_sub k q xs b (cond c (renamed y.num (numbered y (fresh_var xs b y f)) f) f)) c);
  }

  -- ---- binders of predicates

  pub below_pred-kept : (p : PVar) (f r : Form) → catches_pred q b p f ≡ false → IsPredSub q xs b f r → ReplacesBelowPred q xs b p f p r
  below_pred-kept p f r c s = record {
    binder = sym (ap (λ c. cond c (renumbered p (fresh_pred b p f)) p) c);
    body = λ k h. s.by k h ∙ sym (ap (λ c. pred_sub k q xs b (cond c (renamed_pred p.num (fresh_pred b p f) f) f)) c);
  }

  pub below_pred-renamed : (p : PVar) (f r : Form) (n : ℕ) → catches_pred q b p f ≡ true → n ≡ fresh_pred b p f
      → IsPredSub q xs b (renamed_pred p.num n f) r → ReplacesBelowPred q xs b p f (renumbered p n) r
  below_pred-renamed p f r n c m s = record {
    binder = ap (renumbered p) m ∙ sym (ap (λ c. cond c (renumbered p (fresh_pred b p f)) p) c);
    body = λ k h.
        s.by k (omega (arith, depth-renamed_pred p.num n f, h)) ∙ ap (λ n. pred_sub k q xs b (renamed_pred p.num n f)) m
        ∙ sym (ap (λ c. pred_sub k q xs b (cond c (renamed_pred p.num (fresh_pred b p f) f) f)) c);
  }

  pub unless-hidden : (p : PVar) (f : Form) → hides p.num q ≡ true → ReplacesUnlessHidden q xs b p f p f
  unless-hidden p f e = record {
    binder = sym (ap (λ c. cond c p (new_pred_binder q b p f)) e);
    body = λ k h. sym (ap (λ c. cond c f (pred_sub k q xs b (new_pred_body q b p f))) e);
  }

  pub unless-shown : (p z : PVar) (f r : Form) → hides p.num q ≡ false → ReplacesBelowPred q xs b p f z r → ReplacesUnlessHidden q xs b p f z r
  unless-shown p z f r e s = record {
    binder = s.binder ∙ sym (ap (λ c. cond c p (new_pred_binder q b p f)) e);
    body = λ k h. s.body k h ∙ sym (ap (λ c. cond c f (pred_sub k q xs b (new_pred_body q b p f))) e);
  }

pub ruleset replaces = (replaces-true, replaces-false, replaces-equal, replaces-atom, replaces-not, replaces-and, replaces-or, replaces-imp, replaces-iff, replaces-all, replaces-ex, replaces-all2, replaces-ex2, below-kept, below_pred-kept, unless-hidden, unless-shown)
