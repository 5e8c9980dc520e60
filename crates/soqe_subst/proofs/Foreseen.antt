-- Foreseeing what a substitution puts into a formula, and which of its binders catch a variable.
use Rattle.std.proofs.Common.{◌≡◌, ℕ, zero, suc, ◌+◌, Bool, true, false, cond, eqb, ltb, not, List, ◌∷◌, Option, None, refl, sym, ◌∙◌, ap, subst, arith}
use Rattle.std.proofs.lemmas.Bool.{eqb-true, lt-ltb, le-ltb}
use Rattle.soqe_term.specs.declared.bindings.Bound.{Bound}
use Rattle.soqe_term.specs.declared.term.Var.{Var}
use Rattle.soqe_term.specs.declared.term.Term.{Term}
use Rattle.soqe_number.specs.Updates.{changed}
use Rattle.soqe_term.specs.Bindings.{bound_term}
use Rattle.soqe_form.specs.declared.form.Form.{Form, All}
use Rattle.soqe_form.specs.Boxes.{boxes}
use Rattle.soqe_number.specs.Counts.{counted, Counts}
use Rattle.soqe_number.specs.Marks.{marked}
use Rattle.soqe_number.proofs.Counted.{not_zero}
use Rattle.soqe_uses.specs.Uses.{below}
use Rattle.soqe_uses.proofs.UsesCounted.{counts-none}
use Rattle.soqe_subst.specs.Substitution.{visible, without}
use Rattle.soqe_subst.specs.Catching.{put_by, put_in, AreCaught, Foresees}
use Rattle.soqe_subst.proofs.Binders.{without-visible, bound_term-visible}
use Rattle.soqe_subst.proofs.Caught.{caught-put, distinct-visible}

abbrev Pairs : Type 0
Pairs = List (ℕ × ℕ)

abbrev Marked : Type 0
Marked = List (ℕ × Bool)

-- what two walks count is the sum of what they count
pub counts-sum : (p q r : ℕ → ℕ) (a b c : Pairs) → ((n : ℕ) → r n ≡ p n + q n) → Counts p a b → Counts q b c → Counts r a c
counts-sum p q r a b c e h k = record {
  is = λ n. let x = h.is n in let y = k.is n in let sum = e n in omega (arith, x, y, sum);
}

-- ---- a variable

-- a hidden variable has nothing in its place
pub foresees-hidden : (h : ℕ → Bool) (s : List Bound) (y : ℕ) (a : Pairs) → h y ≡ true → Counts (λ n. put_by n (bound_term (visible h s) y)) a a
foresees-hidden h s y a e = counts-none (λ n. put_by n (bound_term (visible h s) y)) a (λ n. ap (put_by n) (bound_term-visible h y s ∙ ap (λ b. cond b None (bound_term s y)) e))

-- and any other has its term, if there is one
pub foresees-shown : (h : ℕ → Bool) (s : List Bound) (y : ℕ) (o : Option Term) (a b : Pairs) → h y ≡ false → bound_term s y ≡ o → Counts (λ n. put_by n o) a b
    → Counts (λ n. put_by n (bound_term (visible h s) y)) a b
foresees-shown h s y o a b e t k = subst (λ o. Counts (λ n. put_by n o) a b) (sym (bound_term-visible h y s ∙ ap (λ b. cond b None (bound_term s y)) e ∙ t)) k

-- ---- a binder

more_than : (count outside inside : ℕ) → inside ≡ count + outside → ltb outside inside ≡ not (eqb count 0)
more_than zero outside inside e = le-ltb outside inside (omega (arith, e))
more_than (suc count) outside inside e = lt-ltb outside inside (omega (arith, e)) ∙ sym (not_zero (suc count) (λ z. omega (arith, z)))

set_back : (h : ℕ → Bool) (y : ℕ) → changed (changed h y true) y (h y) ≡ h
set_back h y = λ i n. step (eqb n y) (h y) (h n) (λ e. ap h (sym (eqb-true n y e))) i
  where
    step : (q u v : Bool) → (q ≡ true → u ≡ v) → cond q u (cond q true v) ≡ v
    step true u v e = e refl
    step false u v e = refl

-- y is hidden in its binder's body, and has its old mark behind it
pub foresees-below : (s : List Bound) (l m k j : Marked) (y : Var) (f g : Form) (a b : Pairs) (old mid new : List Bool) (was : Bool) (outside inside : ℕ)
    → was ≡ marked l y.num → outside ≡ counted a y.num → marked m ≡ changed (marked l) y.num true → g ≡ f → Foresees s m k g a b old mid → marked j ≡ changed (marked k) y.num was
    → inside ≡ counted b y.num → new ≡ ltb outside inside ∷ mid → Foresees s l j (All y f) a b old new
unfolding boxes
foresees-below s l m k j y f g a b old mid new was outside inside w o hidden same part back now up =
    let h : Foresees s m k f a b old mid = subst (λ g. Foresees s m k g a b old mid) same part in
    let v : List Bound = without y.num (visible (marked l) s) in
    let seen : visible (marked m) s ≡ v = ap (λ h. visible h s) hidden ∙ sym (without-visible (marked l) y.num s) in
    let counts : Counts (λ n. put_in v n f) a b = subst (λ v. Counts (λ n. put_in v n f) a b) seen h.counts in
    let sum : inside ≡ put_in v y.num f + outside = now ∙ counts.is y.num ∙ ap (λ c. put_in v y.num f + c) (sym o) in
    record {
      counts = counts;
      caught = λ d.
          subst (AreCaught (visible (marked l) s) (All y f)) (sym up) (
            more_than (put_in v y.num f) outside inside sum ∙ sym (caught-put v y f (distinct-visible (λ n. eqb n y.num) (visible (marked l) s) (distinct-visible (marked l) s d))),
            subst (λ v. AreCaught v f mid) seen (h.caught d),
          );
      rest = ap (below (All y f)) up ∙ h.rest;
      kept = back ∙ (λ i. changed ((h.kept ∙ hidden) i) y.num (w i)) ∙ set_back (marked l) y.num;
    }
