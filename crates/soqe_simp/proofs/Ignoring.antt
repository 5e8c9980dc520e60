-- A function of formulas that looks at no term and at no variable has one value before and after a substitution.
use Rattle.std.proofs.Common.{◌≡◌, ℕ, zero, suc, ◌+◌, false, eqb, cond, ◌||◌, List, refl, ◌∙◌, ap}
use Rattle.soqe_term.specs.declared.bindings.Bound.{Bound as Pair}
use Rattle.soqe_term.specs.declared.term.Var.{Var}
use Rattle.soqe_term.specs.declared.term.Term.{Term, Var as var}
use Rattle.soqe_term.specs.declared.term.Terms.{Terms}
use Rattle.soqe_term.specs.Subst.{replaced, all_replaced}
use Rattle.soqe_term.specs.Bindings.{bound_in, all_bound_in}
use Rattle.soqe_number.proofs.Choices.{by_cases}
use Rattle.soqe_form.specs.declared.form.Pred.{Pred}
use Rattle.soqe_form.specs.declared.form.PVar.{PVar}
use Rattle.soqe_form.specs.declared.form.Form.{Form, True, False, Equal, Atom, Not, Not', And, And', Or, Or', Imp, Imp', Iff, Iff', All, All', Ex, Ex', All2, All2', Ex2, Ex2', end_of-Form as end, more_of-Form as one}
use Rattle.soqe_form.specs.Boxes.{boxes}
use Rattle.soqe_form.specs.Free.{free_pred}
use Rattle.soqe_subst.specs.Substitution.{without, renamed, fresh, catches, new_binder, new_body, sub}
use Rattle.soqe_term.specs.Renumber.{numbered}
use Rattle.soqe_simp.specs.Weight.{weight}

-- the value at a node depends on the values at its parts, and on the predicates that stand there
pub record Ignores {A : Type 0} (v : Form → A) : Type 0 where
  pub equal : (s t u r : Term) → v (Equal s t) ≡ v (Equal u r)
  pub atom : (p : Pred) (ts us : Terms) → v (Atom p ts) ≡ v (Atom p us)
  pub not : (f g : Form) → v f ≡ v g → v (Not f) ≡ v (Not g)
  pub and : (f g h k : Form) → v f ≡ v g → v h ≡ v k → v (And f h) ≡ v (And g k)
  pub or : (f g h k : Form) → v f ≡ v g → v h ≡ v k → v (Or f h) ≡ v (Or g k)
  pub imp : (f g h k : Form) → v f ≡ v g → v h ≡ v k → v (Imp f h) ≡ v (Imp g k)
  pub iff : (f g h k : Form) → v f ≡ v g → v h ≡ v k → v (Iff f h) ≡ v (Iff g k)
  pub all : (x y : Var) (f g : Form) → v f ≡ v g → v (All x f) ≡ v (All y g)
  pub ex : (x y : Var) (f g : Form) → v f ≡ v g → v (Ex x f) ≡ v (Ex y g)
  pub all2 : (p : PVar) (f g : Form) → v f ≡ v g → v (All2 p f) ≡ v (All2 p g)
  pub ex2 : (p : PVar) (f g : Form) → v f ≡ v g → v (Ex2 p f) ≡ v (Ex2 p g)

module _ {A : Type 0} (v : Form → A) (i : Ignores v) where
  same_renamed : (y : ℕ) (z : Var) (f : Form) → v (renamed y z f) ≡ v f
  unfolding boxes
  same_renamed y z True = refl
  same_renamed y z False = refl
  same_renamed y z (Equal s t) = i.equal (replaced y (var z) s) (replaced y (var z) t) s t
  same_renamed y z (Atom p ts) = i.atom p (all_replaced y (var z) ts) ts
  same_renamed y z (Not' _ (one f end)) = i.not (renamed y z f) f (same_renamed y z f)
  same_renamed y z (And' _ (one f end) _ (one g end)) = i.and (renamed y z f) f (renamed y z g) g (same_renamed y z f) (same_renamed y z g)
  same_renamed y z (Or' _ (one f end) _ (one g end)) = i.or (renamed y z f) f (renamed y z g) g (same_renamed y z f) (same_renamed y z g)
  same_renamed y z (Imp' _ (one f end) _ (one g end)) = i.imp (renamed y z f) f (renamed y z g) g (same_renamed y z f) (same_renamed y z g)
  same_renamed y z (Iff' _ (one f end) _ (one g end)) = i.iff (renamed y z f) f (renamed y z g) g (same_renamed y z f) (same_renamed y z g)
  same_renamed y z (All' x _ (one f end)) =
      i.all x x (cond (eqb x.num y) f (renamed y z f)) f (by_cases (λ r. v r ≡ v f) (eqb x.num y) f (renamed y z f) (λ _. refl) (λ _. same_renamed y z f))
  same_renamed y z (Ex' x _ (one f end)) =
      i.ex x x (cond (eqb x.num y) f (renamed y z f)) f (by_cases (λ r. v r ≡ v f) (eqb x.num y) f (renamed y z f) (λ _. refl) (λ _. same_renamed y z f))
  same_renamed y z (All2' p _ (one f end)) = i.all2 p (renamed y z f) f (same_renamed y z f)
  same_renamed y z (Ex2' p _ (one f end)) = i.ex2 p (renamed y z f) f (same_renamed y z f)

  same_body : (s : List Pair) (y : Var) (f : Form) → v (new_body s y f) ≡ v f
  same_body s y f = by_cases (λ r. v r ≡ v f) (catches s y f) (renamed y.num (numbered y (fresh s f)) f) f (λ _. same_renamed y.num (numbered y (fresh s f)) f) (λ _. refl)

  pub same_sub : (k : ℕ) (s : List Pair) (f : Form) → v (sub k s f) ≡ v f
  unfolding boxes
  same_sub zero s f = refl
  same_sub (suc k) s True = refl
  same_sub (suc k) s False = refl
  same_sub (suc k) s (Equal t u) = i.equal (bound_in s t) (bound_in s u) t u
  same_sub (suc k) s (Atom p ts) = i.atom p (all_bound_in s ts) ts
  same_sub (suc k) s (Not' _ (one f end)) = i.not (sub k s f) f (same_sub k s f)
  same_sub (suc k) s (And' _ (one f end) _ (one g end)) = i.and (sub k s f) f (sub k s g) g (same_sub k s f) (same_sub k s g)
  same_sub (suc k) s (Or' _ (one f end) _ (one g end)) = i.or (sub k s f) f (sub k s g) g (same_sub k s f) (same_sub k s g)
  same_sub (suc k) s (Imp' _ (one f end) _ (one g end)) = i.imp (sub k s f) f (sub k s g) g (same_sub k s f) (same_sub k s g)
  same_sub (suc k) s (Iff' _ (one f end) _ (one g end)) = i.iff (sub k s f) f (sub k s g) g (same_sub k s f) (same_sub k s g)
  same_sub (suc k) s (All' y _ (one f end)) =
      let s2 : List Pair = without y.num s in
      i.all (new_binder s2 y f) y (sub k s2 (new_body s2 y f)) f (same_sub k s2 (new_body s2 y f) ∙ same_body s2 y f)
  same_sub (suc k) s (Ex' y _ (one f end)) =
      let s2 : List Pair = without y.num s in
      i.ex (new_binder s2 y f) y (sub k s2 (new_body s2 y f)) f (same_sub k s2 (new_body s2 y f) ∙ same_body s2 y f)
  same_sub (suc k) s (All2' p _ (one f end)) = i.all2 p (sub k s f) f (same_sub k s f)
  same_sub (suc k) s (Ex2' p _ (one f end)) = i.ex2 p (sub k s f) f (same_sub k s f)

ignores-weight : Ignores weight
unfolding boxes
ignores-weight = record {
  equal = λ s t u r. refl;
  atom = λ p ts us. refl;
  not = λ f g e. ap (λ m. 2 + m) e;
  and = λ f g h k e d. λ i. 1 + (e i + d i);
  or = λ f g h k e d. λ i. 1 + (e i + d i);
  imp = λ f g h k e d. λ i. 2 + (e i + d i);
  iff = λ f g h k e d. λ i. 2 + (e i + d i);
  all = λ x y f g e. ap (λ m. 1 + m) e;
  ex = λ x y f g e. ap (λ m. 1 + m) e;
  all2 = λ p f g e. ap (λ m. 1 + m) e;
  ex2 = λ p f g e. ap (λ m. 1 + m) e;
}

ignores-free_pred : (n : ℕ) → Ignores (λ f. free_pred n f)
unfolding boxes
ignores-free_pred n = record {
  equal = λ s t u r. refl;
  atom = λ p ts us. refl;
  not = λ f g e. e;
  and = λ f g h k e d. λ i. e i || d i;
  or = λ f g h k e d. λ i. e i || d i;
  imp = λ f g h k e d. λ i. e i || d i;
  iff = λ f g h k e d. λ i. e i || d i;
  all = λ x y f g e. e;
  ex = λ x y f g e. e;
  all2 = λ p f g e. ap (λ b. cond (eqb n p.num) false b) e;
  ex2 = λ p f g e. ap (λ b. cond (eqb n p.num) false b) e;
}

-- substitution changes neither the weight nor the free bound predicates
pub weight-sub : (k : ℕ) (s : List Pair) (f : Form) → weight (sub k s f) ≡ weight f
weight-sub = same_sub weight ignores-weight

pub free_pred-sub : (n k : ℕ) (s : List Pair) (f : Form) → free_pred n (sub k s f) ≡ free_pred n f
free_pred-sub n = same_sub (λ f. free_pred n f) (ignores-free_pred n)
