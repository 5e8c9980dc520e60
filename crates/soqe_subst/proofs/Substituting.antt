-- Each kind of formula under substitution, as the walk goes through it. Binders stand in SubstitutingBinders.
use Rattle.std.proofs.Common.{◌≡◌, ℕ, zero, suc, ◌≤◌, Bool, List, Option, refl, sym, ◌∙◌, ap, arith}
use Rattle.soqe_term.specs.declared.bindings.Bound.{Bound as Pair}
use Rattle.soqe_term.specs.declared.term.Var.{Var}
use Rattle.soqe_term.specs.declared.term.Term.{Term}
use Rattle.soqe_term.specs.declared.term.Terms.{Terms}
use Rattle.soqe_form.specs.declared.form.PVar.{PVar}
use Rattle.soqe_form.specs.declared.form.Pred.{Pred}
use Rattle.soqe_form.specs.declared.form.Form.{Form, True, False, Equal, Atom, Not, All, Ex, All2, Ex2}
use Rattle.soqe_form.specs.Boxes.{boxes}
use Rattle.soqe_number.specs.Marks.{marked}
use Rattle.soqe_form.specs.Mentions.{depth}
use Rattle.soqe_number.specs.declared.unkept.Unkept.{Unkept}
use Rattle.soqe_number.specs.declared.tally.Tally.{Tally}
use Rattle.soqe_subst.specs.declared.walk.Walk.{Walk}
use Rattle.soqe_subst.specs.NewVars.{new_var}
use Rattle.soqe_subst.specs.Renewed.{renewed_term, all_renewed}
use Rattle.soqe_subst.specs.Substitution.{sub}
use Rattle.soqe_subst.specs.Substitutes.{BindsTerm, BindsTerms, seen, left_of, IsReadyAt, Substitutes, SubstitutesBelow}

-- a depth of at least one more than n is one more than some m, at least n
pub record Fuel (n k : ℕ) : Type 0 where
  pub less : ℕ
  pub is : k ≡ suc less
  pub enough : n ≤ less

pub fuel : (n k : ℕ) → suc n ≤ k → Fuel n k
fuel n zero h = absurd (omega arith)
fuel n (suc m) h = record { less = m; is = refl; enough = omega arith }

-- what is ready for a node over one part is ready for the part
ready-part : (u : Unkept) (s : List Pair) (h : ℕ → Bool) (r : ℕ → Option Var) (cs : List Bool) (ns : List ℕ) (f : Form) → IsReadyAt u s h r cs ns (Not f) → IsReadyAt u s h r cs ns f
unfolding boxes
ready-part u s h r cs ns f p = record { kept = p.kept; distinct = p.distinct; apart = p.apart; unbound = p.unbound; caught = p.caught; used = p.used }

ready-all2 : (u : Unkept) (s : List Pair) (h : ℕ → Bool) (r : ℕ → Option Var) (cs : List Bool) (ns : List ℕ) (p : PVar) (f : Form) → IsReadyAt u s h r cs ns (All2 p f) → IsReadyAt u s h r cs ns f
unfolding boxes
ready-all2 u s h r cs ns p f q = record { kept = q.kept; distinct = q.distinct; apart = q.apart; unbound = q.unbound; caught = q.caught; used = q.used }

ready-ex2 : (u : Unkept) (s : List Pair) (h : ℕ → Bool) (r : ℕ → Option Var) (cs : List Bool) (ns : List ℕ) (p : PVar) (f : Form) → IsReadyAt u s h r cs ns (Ex2 p f) → IsReadyAt u s h r cs ns f
unfolding boxes
ready-ex2 u s h r cs ns p f q = record { kept = q.kept; distinct = q.distinct; apart = q.apart; unbound = q.unbound; caught = q.caught; used = q.used }

-- what is ready for a binder is ready for a universal one
ready-ex : (u : Unkept) (s : List Pair) (h : ℕ → Bool) (r : ℕ → Option Var) (cs : List Bool) (ns : List ℕ) (y : Var) (f : Form) → IsReadyAt u s h r cs ns (Ex y f) → IsReadyAt u s h r cs ns (All y f)
unfolding boxes
ready-ex u s h r cs ns y f p = record { kept = p.kept; distinct = p.distinct; apart = p.apart; unbound = p.unbound; caught = p.caught; used = p.used }

module _ (u : Unkept) (s : List Pair) where
  pub substitutes-true : (a : Walk) (t : Tally) → Substitutes u s a a t True True
  substitutes-true a t = record {
    is = λ k h ready right. let q = fuel 0 k h in ap (λ k. sub k (seen s a) True) (sym q.is);
    walk = record { hidden = refl; renamed = refl; catches = refl; uses = refl };
  }

  pub substitutes-false : (a : Walk) (t : Tally) → Substitutes u s a a t False False
  substitutes-false a t = record {
    is = λ k h ready right. let q = fuel 0 k h in ap (λ k. sub k (seen s a) False) (sym q.is);
    walk = record { hidden = refl; renamed = refl; catches = refl; uses = refl };
  }

  pub substitutes-equal : (a : Walk) (t : Tally) (v w v2 w2 : Term) → BindsTerm s (marked a.hidden) (new_var a.renamed) v v2 → BindsTerm s (marked a.hidden) (new_var a.renamed) w w2
      → Substitutes u s a a t (Equal v w) (Equal v2 w2)
  substitutes-equal a t v w v2 w2 p o = record {
    is = λ k h ready right. let q = fuel 0 k h in
        (λ i. Equal (p ready.apart i) (o ready.apart i)) ∙ ap (λ k. sub k (seen s a) (Equal (renewed_term (new_var a.renamed) v) (renewed_term (new_var a.renamed) w))) (sym q.is);
    walk = record { hidden = refl; renamed = refl; catches = refl; uses = refl };
  }

  pub substitutes-atom : (a : Walk) (t : Tally) (p : Pred) (ts ts2 : Terms) → BindsTerms s (marked a.hidden) (new_var a.renamed) ts ts2 → Substitutes u s a a t (Atom p ts) (Atom p ts2)
  substitutes-atom a t p ts ts2 o = record {
    is = λ k h ready right. let q = fuel 0 k h in ap (Atom p) (o ready.apart) ∙ ap (λ k. sub k (seen s a) (Atom p (all_renewed (new_var a.renamed) ts))) (sym q.is);
    walk = record { hidden = refl; renamed = refl; catches = refl; uses = refl };
  }

  pub substitutes-not : (a b : Walk) (t : Tally) (f m : Form) → Substitutes u s a b t f m → Substitutes u s a b t (Not f) (Not m)
  unfolding boxes
  substitutes-not a b t f m p = record {
    is = λ k h ready right. let q = fuel (depth f) k h in
        ap Not (p.is q.less q.enough (ready-part u s (marked a.hidden) (new_var a.renamed) a.catches a.uses f ready) right)
        ∙ ap (λ k. sub k (seen s a) (Not (left_of a f))) (sym q.is);
    walk = record { hidden = p.walk.hidden; renamed = p.walk.renamed; catches = p.walk.catches; uses = p.walk.uses };
  }

  pub substitutes-all2 : (a b : Walk) (t : Tally) (p : PVar) (f m : Form) → Substitutes u s a b t f m → Substitutes u s a b t (All2 p f) (All2 p m)
  unfolding boxes
  substitutes-all2 a b t p f m o = record {
    is = λ k h ready right. let q = fuel (depth f) k h in
        ap (All2 p) (o.is q.less q.enough (ready-all2 u s (marked a.hidden) (new_var a.renamed) a.catches a.uses p f ready) right)
        ∙ ap (λ k. sub k (seen s a) (All2 p (left_of a f))) (sym q.is);
    walk = record { hidden = o.walk.hidden; renamed = o.walk.renamed; catches = o.walk.catches; uses = o.walk.uses };
  }

  pub substitutes-ex2 : (a b : Walk) (t : Tally) (p : PVar) (f m : Form) → Substitutes u s a b t f m → Substitutes u s a b t (Ex2 p f) (Ex2 p m)
  unfolding boxes
  substitutes-ex2 a b t p f m o = record {
    is = λ k h ready right. let q = fuel (depth f) k h in
        ap (Ex2 p) (o.is q.less q.enough (ready-ex2 u s (marked a.hidden) (new_var a.renamed) a.catches a.uses p f ready) right)
        ∙ ap (λ k. sub k (seen s a) (Ex2 p (left_of a f))) (sym q.is);
    walk = record { hidden = o.walk.hidden; renamed = o.walk.renamed; catches = o.walk.catches; uses = o.walk.uses };
  }

  pub substitutes-all : (a b : Walk) (t : Tally) (y z : Var) (f m : Form) → SubstitutesBelow u s a b t y f z m → Substitutes u s a b t (All y f) (All z m)
  unfolding boxes
  substitutes-all a b t y z f m p = record {
    is = λ k h ready right. let q = fuel (depth f) k h in
        (λ i. All (p.binder ready right i) (p.body q.less q.enough ready right i)) ∙ ap (λ k. sub k (seen s a) (left_of a (All y f))) (sym q.is);
    walk = p.walk;
  }

  pub substitutes-ex : (a b : Walk) (t : Tally) (y z : Var) (f m : Form) → SubstitutesBelow u s a b t y f z m → Substitutes u s a b t (Ex y f) (Ex z m)
  unfolding boxes
  substitutes-ex a b t y z f m p = record {
    is = λ k h ready right. let q = fuel (depth f) k h in
        let all = ready-ex u s (marked a.hidden) (new_var a.renamed) a.catches a.uses y f ready in
        (λ i. Ex (p.binder all right i) (p.body q.less q.enough all right i)) ∙ ap (λ k. sub k (seen s a) (left_of a (Ex y f))) (sym q.is);
    walk = record { hidden = p.walk.hidden; renamed = p.walk.renamed; catches = p.walk.catches; uses = p.walk.uses };
  }

pub ruleset substitutes = (substitutes-true, substitutes-false, substitutes-equal, substitutes-atom, substitutes-not, substitutes-all, substitutes-ex, substitutes-all2, substitutes-ex2)
