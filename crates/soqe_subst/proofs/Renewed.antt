-- Formulas with new variables.
--
--   renewed-none      where no variable has a new one, the formula stays
--   renamed-renewed      one variable renamed after it has one more new variable
--   free-renewed      a variable that has no new one, and is none, is free as before
--   binds-mentions      a number that stands nowhere is bound nowhere
--   catches-renewed      where new variables are apart from a binding, a binder catches as before
use Rattle.std.proofs.Common.{◌≡◌, ℕ, Bool, true, false, cond, eqb, ◌||◌, ◌&&◌, List, [], ◌∷◌, Option, Some, None, refl, sym, ◌∙◌, ap, subst}
use Rattle.std.proofs.lemmas.Bool.{eqb-true, or_from, both_ways}
use Rattle.std.proofs.lemmas.Option.{none-some}
use Rattle.std.specs.Option.{unwrap_or}
use Rattle.soqe_term.specs.declared.bindings.Bound.{Bound}
use Rattle.soqe_term.specs.declared.term.Var.{Var}
use Rattle.soqe_term.specs.declared.term.Term.{Term, Var as var, App}
use Rattle.soqe_term.specs.declared.term.Terms.{Terms, Nil, Cons, Cons', end_of-Term as end-t, more_of-Term as one-t, end_of-Terms as ends-t, more_of-Terms as ones-t}
use Rattle.soqe_term.specs.Boxes.{boxes as term_boxes}
use Rattle.soqe_number.specs.Updates.{changed}
use Rattle.soqe_term.specs.Occurs.{occurs, occurs_any}
use Rattle.soqe_term.specs.Subst.{replaced, all_replaced}
use Rattle.soqe_number.proofs.Choices.{by_cases, bool_cases, or_none_first, or_none_second}
use Rattle.soqe_term.proofs.Worlds.{changed-again, changed-commutes}
use Rattle.soqe_form.specs.declared.form.Form.{Form, True, False, Equal, Atom, Not, Not', And, And', Or, Or', Imp, Imp', Iff, Iff', All, All', Ex, Ex', All2, All2', Ex2, Ex2', end_of-Form as end, more_of-Form as one}
use Rattle.soqe_form.specs.Boxes.{boxes}
use Rattle.soqe_form.specs.Free.{free}
use Rattle.soqe_form.specs.Mentions.{mentions}
use Rattle.soqe_form.proofs.Numbers.{eqb-swap}
use Rattle.soqe_subst.specs.Substitution.{visible, bound_mentions, caught, renamed, catches}
use Rattle.soqe_subst.specs.Renewed.{renewed_term, all_renewed, renewed, binds}
use Rattle.soqe_subst.specs.NewVars.{IsApart}

-- ---- below a binder

kept_below : (P : Var → Type 0) (q : Bool) (o : Option Var) → ((v : Var) → o ≡ Some v → P v) → (v : Var) → cond q None o ≡ Some v → P v
kept_below P true o h v e = absurd (none-some v e)
kept_below P false o h v e = h v e

none_below : (q : Bool) (o : Option Var) → o ≡ None → cond q None o ≡ None
none_below true o h = refl
none_below false o h = h

same_both : (q : Bool) (o : Option Var) → cond q o o ≡ o
same_both true o = refl
same_both false o = refl

-- ---- no new variables

mutual
  unfolding term_boxes

  renewed_term-none : (t : Term) → renewed_term (λ n. None) t ≡ t
  renewed_term-none (var y) = refl
  renewed_term-none (App f s ts) = ap (App f s) (all_renewed-none ts)

  all_renewed-none : (ts : Terms) → all_renewed (λ n. None) ts ≡ ts
  all_renewed-none Nil = refl
  all_renewed-none (Cons' _ (one-t t end-t) _ (ones-t ts ends-t)) = λ i. Cons (renewed_term-none t i) (all_renewed-none ts i)

-- where no variable has a new one, the formula stays
pub renewed-none : (f : Form) → renewed (λ n. None) f ≡ f
unfolding boxes
renewed-none True = refl
renewed-none False = refl
renewed-none (Equal s t) = λ i. Equal (renewed_term-none s i) (renewed_term-none t i)
renewed-none (Atom p ts) = ap (Atom p) (all_renewed-none ts)
renewed-none (Not' _ (one f end)) = ap Not (renewed-none f)
renewed-none (And' _ (one f end) _ (one g end)) = λ i. And (renewed-none f i) (renewed-none g i)
renewed-none (Or' _ (one f end) _ (one g end)) = λ i. Or (renewed-none f i) (renewed-none g i)
renewed-none (Imp' _ (one f end) _ (one g end)) = λ i. Imp (renewed-none f i) (renewed-none g i)
renewed-none (Iff' _ (one f end) _ (one g end)) = λ i. Iff (renewed-none f i) (renewed-none g i)
renewed-none (All' x _ (one f end)) = ap (All x) ((λ i. renewed (λ n. same_both (eqb n x.num) None i) f) ∙ renewed-none f)
renewed-none (Ex' x _ (one f end)) = ap (Ex x) ((λ i. renewed (λ n. same_both (eqb n x.num) None i) f) ∙ renewed-none f)
renewed-none (All2' p _ (one f end)) = ap (All2 p) (renewed-none f)
renewed-none (Ex2' p _ (one f end)) = ap (Ex2 p) (renewed-none f)

-- ---- one more new variable

replaced_new : (q : Bool) (o : Option Var) (y : ℕ) (z x : Var) → q ≡ eqb x.num y → ((v : Var) → o ≡ Some v → eqb v.num y ≡ false) → (q ≡ true → o ≡ None)
    → replaced y (var z) (var (unwrap_or o x)) ≡ var (unwrap_or (cond q (Some z) o) x)
replaced_new true None y z x e h k = ap (λ b. cond b (var z) (var x)) (sym e)
replaced_new false None y z x e h k = ap (λ b. cond b (var z) (var x)) (sym e)
replaced_new true (Some v) y z x e h k = absurd (none-some v (sym (k refl)))
replaced_new false (Some v) y z x e h k = ap (λ b. cond b (var z) (var v)) (h v refl)

module _ (y : ℕ) (z : Var) where
  mutual
    unfolding term_boxes

    replaced-renewed : (r : ℕ → Option Var) (t : Term) → ((n : ℕ) (v : Var) → r n ≡ Some v → eqb v.num y ≡ false) → r y ≡ None
        → replaced y (var z) (renewed_term r t) ≡ renewed_term (changed r y (Some z)) t
    replaced-renewed r (var x) h k = replaced_new (eqb x.num y) (r x.num) y z x refl (h x.num) (λ e. ap r (eqb-true x.num y e) ∙ k)
    replaced-renewed r (App f s ts) h k = ap (App f s) (all_replaced-renewed r ts h k)

    all_replaced-renewed : (r : ℕ → Option Var) (ts : Terms) → ((n : ℕ) (v : Var) → r n ≡ Some v → eqb v.num y ≡ false) → r y ≡ None
        → all_replaced y (var z) (all_renewed r ts) ≡ all_renewed (changed r y (Some z)) ts
    all_replaced-renewed r Nil h k = refl
    all_replaced-renewed r (Cons' _ (one-t t end-t) _ (ones-t ts ends-t)) h k = λ i. Cons (replaced-renewed r t h k i) (all_replaced-renewed r ts h k i)

-- below a binder, which may be of the variable that is renamed
renamed_below : (r : ℕ → Option Var) (y : ℕ) (z x : Var) (f : Form) → renamed y z (renewed (changed r x.num None) f) ≡ renewed (changed (changed r x.num None) y (Some z)) f
    → cond (eqb x.num y) (renewed (changed r x.num None) f) (renamed y z (renewed (changed r x.num None) f)) ≡ renewed (changed (changed r y (Some z)) x.num None) f
renamed_below r y z x f h =
    by_cases (λ g. g ≡ renewed (changed (changed r y (Some z)) x.num None) f) (eqb x.num y) (renewed (changed r x.num None) f) (renamed y z (renewed (changed r x.num None) f))
    (λ e. ap (λ s. renewed s f) (sym (changed-again r x.num (Some z) None) ∙ ap (λ k. changed (changed r k (Some z)) x.num None) (eqb-true x.num y e)))
    (λ e. h ∙ ap (λ s. renewed s f) (changed-commutes r x.num y None (Some z) e))

-- one variable renamed where it has no new one and is none: it has one new variable more
pub renamed-renewed : (r : ℕ → Option Var) (y : ℕ) (z : Var) (f : Form) → ((n : ℕ) (v : Var) → r n ≡ Some v → eqb v.num y ≡ false) → r y ≡ None
    → renamed y z (renewed r f) ≡ renewed (changed r y (Some z)) f
unfolding boxes
renamed-renewed r y z True h k = refl
renamed-renewed r y z False h k = refl
renamed-renewed r y z (Equal s t) h k = λ i. Equal (replaced-renewed y z r s h k i) (replaced-renewed y z r t h k i)
renamed-renewed r y z (Atom p ts) h k = ap (Atom p) (all_replaced-renewed y z r ts h k)
renamed-renewed r y z (Not' _ (one f end)) h k = ap Not (renamed-renewed r y z f h k)
renamed-renewed r y z (And' _ (one f end) _ (one g end)) h k = λ i. And (renamed-renewed r y z f h k i) (renamed-renewed r y z g h k i)
renamed-renewed r y z (Or' _ (one f end) _ (one g end)) h k = λ i. Or (renamed-renewed r y z f h k i) (renamed-renewed r y z g h k i)
renamed-renewed r y z (Imp' _ (one f end) _ (one g end)) h k = λ i. Imp (renamed-renewed r y z f h k i) (renamed-renewed r y z g h k i)
renamed-renewed r y z (Iff' _ (one f end) _ (one g end)) h k = λ i. Iff (renamed-renewed r y z f h k i) (renamed-renewed r y z g h k i)
renamed-renewed r y z (All' x _ (one f end)) h k =
    ap (All x) (renamed_below r y z x f (renamed-renewed (changed r x.num None) y z f
    (λ n. kept_below (λ v. eqb v.num y ≡ false) (eqb n x.num) (r n) (h n)) (none_below (eqb y x.num) (r y) k)))
renamed-renewed r y z (Ex' x _ (one f end)) h k =
    ap (Ex x) (renamed_below r y z x f (renamed-renewed (changed r x.num None) y z f
    (λ n. kept_below (λ v. eqb v.num y ≡ false) (eqb n x.num) (r n) (h n)) (none_below (eqb y x.num) (r y) k)))
renamed-renewed r y z (All2' p _ (one f end)) h k = ap (All2 p) (renamed-renewed r y z f h k)
renamed-renewed r y z (Ex2' p _ (one f end)) h k = ap (Ex2 p) (renamed-renewed r y z f h k)

-- ---- free variables

occurs_new : (x : ℕ) (o : Option Var) (y : Var) → ((v : Var) → o ≡ Some v → eqb x v.num ≡ false) → (eqb x y.num ≡ true → o ≡ None)
    → eqb x (unwrap_or o y).num ≡ eqb x y.num
occurs_new x None y h k = refl
occurs_new x (Some v) y h k = h v refl ∙ sym (bool_cases (λ b. b ≡ false) (eqb x y.num) (λ e. absurd (none-some v (sym (k e)))) (λ e. refl))

module _ (x : ℕ) (r : ℕ → Option Var) (k : r x ≡ None) (h : (n : ℕ) (v : Var) → r n ≡ Some v → eqb x v.num ≡ false) where
  mutual
    unfolding term_boxes

    occurs-renewed : (t : Term) → occurs x (renewed_term r t) ≡ occurs x t
    occurs-renewed (var y) = occurs_new x (r y.num) y (h y.num) (λ e. ap r (sym (eqb-true x y.num e)) ∙ k)
    occurs-renewed (App f s ts) = occurs_any-renewed ts

    occurs_any-renewed : (ts : Terms) → occurs_any x (all_renewed r ts) ≡ occurs_any x ts
    occurs_any-renewed Nil = refl
    occurs_any-renewed (Cons' _ (one-t t end-t) _ (ones-t ts ends-t)) = λ i. occurs-renewed t i || occurs_any-renewed ts i

-- a variable that has no new one, and is none, is free as before
pub free-renewed : (x : ℕ) (r : ℕ → Option Var) (f : Form) → r x ≡ None → ((n : ℕ) (v : Var) → r n ≡ Some v → eqb x v.num ≡ false)
    → free x (renewed r f) ≡ free x f
unfolding boxes
free-renewed x r True k h = refl
free-renewed x r False k h = refl
free-renewed x r (Equal s t) k h = λ i. occurs-renewed x r k h s i || occurs-renewed x r k h t i
free-renewed x r (Atom p ts) k h = occurs_any-renewed x r k h ts
free-renewed x r (Not' _ (one f end)) k h = free-renewed x r f k h
free-renewed x r (And' _ (one f end) _ (one g end)) k h = λ i. free-renewed x r f k h i || free-renewed x r g k h i
free-renewed x r (Or' _ (one f end) _ (one g end)) k h = λ i. free-renewed x r f k h i || free-renewed x r g k h i
free-renewed x r (Imp' _ (one f end) _ (one g end)) k h = λ i. free-renewed x r f k h i || free-renewed x r g k h i
free-renewed x r (Iff' _ (one f end) _ (one g end)) k h = λ i. free-renewed x r f k h i || free-renewed x r g k h i
free-renewed x r (All' y _ (one f end)) k h =
    ap (cond (eqb x y.num) false) (free-renewed x (changed r y.num None) f
    (none_below (eqb x y.num) (r x) k) (λ n. kept_below (λ v. eqb x v.num ≡ false) (eqb n y.num) (r n) (h n)))
free-renewed x r (Ex' y _ (one f end)) k h =
    ap (cond (eqb x y.num) false) (free-renewed x (changed r y.num None) f
    (none_below (eqb x y.num) (r x) k) (λ n. kept_below (λ v. eqb x v.num ≡ false) (eqb n y.num) (r n) (h n)))
free-renewed x r (All2' p _ (one f end)) k h = free-renewed x r f k h
free-renewed x r (Ex2' p _ (one f end)) k h = free-renewed x r f k h

-- ---- binders

-- a number that stands nowhere in the formula with its new variables is bound nowhere in it
pub binds-mentions : (n : ℕ) (r : ℕ → Option Var) (f : Form) → mentions n (renewed r f) ≡ false → binds n f ≡ false
unfolding boxes
binds-mentions n r True h = refl
binds-mentions n r False h = refl
binds-mentions n r (Equal s t) h = refl
binds-mentions n r (Atom p ts) h = refl
binds-mentions n r (Not' _ (one f end)) h = binds-mentions n r f h
binds-mentions n r (And' _ (one f end) _ (one g end)) h =
    or_from (binds n f) (binds n g) (binds-mentions n r f (or_none_first (mentions n (renewed r f)) (mentions n (renewed r g)) h))
    (binds-mentions n r g (or_none_second (mentions n (renewed r f)) (mentions n (renewed r g)) h))
binds-mentions n r (Or' _ (one f end) _ (one g end)) h =
    or_from (binds n f) (binds n g) (binds-mentions n r f (or_none_first (mentions n (renewed r f)) (mentions n (renewed r g)) h))
    (binds-mentions n r g (or_none_second (mentions n (renewed r f)) (mentions n (renewed r g)) h))
binds-mentions n r (Imp' _ (one f end) _ (one g end)) h =
    or_from (binds n f) (binds n g) (binds-mentions n r f (or_none_first (mentions n (renewed r f)) (mentions n (renewed r g)) h))
    (binds-mentions n r g (or_none_second (mentions n (renewed r f)) (mentions n (renewed r g)) h))
binds-mentions n r (Iff' _ (one f end) _ (one g end)) h =
    or_from (binds n f) (binds n g) (binds-mentions n r f (or_none_first (mentions n (renewed r f)) (mentions n (renewed r g)) h))
    (binds-mentions n r g (or_none_second (mentions n (renewed r f)) (mentions n (renewed r g)) h))
binds-mentions n r (All' x _ (one f end)) h =
    or_from (eqb n x.num) (binds n f) (or_none_first (eqb n x.num) (mentions n (renewed (changed r x.num None) f)) h)
    (binds-mentions n (changed r x.num None) f (or_none_second (eqb n x.num) (mentions n (renewed (changed r x.num None) f)) h))
binds-mentions n r (Ex' x _ (one f end)) h =
    or_from (eqb n x.num) (binds n f) (or_none_first (eqb n x.num) (mentions n (renewed (changed r x.num None) f)) h)
    (binds-mentions n (changed r x.num None) f (or_none_second (eqb n x.num) (mentions n (renewed (changed r x.num None) f)) h))
binds-mentions n r (All2' p _ (one f end)) h = binds-mentions n r f h
binds-mentions n r (Ex2' p _ (one f end)) h = binds-mentions n r f h

-- ---- what a binder catches

not_new : (h : ℕ → Bool) (n : ℕ) (o : Option Var) → h n ≡ false → ((v : Var) → o ≡ Some v → h n ≡ true) → o ≡ None
not_new h n None shown hides = refl
not_new h n (Some v) shown hides = absurd (both_ways (h n) shown (hides v refl))

-- the variable at the head of what is seen is not hidden, and is no new one
free-head : (h : ℕ → Bool) (r : ℕ → Option Var) (b : Bound) (v : List Bound) (f : Form) → h b.var.num ≡ false → IsApart (b ∷ v) h r
    → free b.var.num (renewed r f) ≡ free b.var.num f
free-head h r b v f shown apart =
    free-renewed b.var.num r f (not_new h b.var.num (r b.var.num) shown (apart.hides b.var.num))
    (λ n z e. eqb-swap z.num b.var.num (or_none_first (eqb z.num b.var.num) (occurs z.num b.term || bound_mentions z.num v) (apart.stands n z e)))

apart-rest : (h : ℕ → Bool) (r : ℕ → Option Var) (b : Bound) (v : List Bound) → IsApart (b ∷ v) h r → IsApart v h r
apart-rest h r b v apart = record {
  hides = apart.hides;
  stands = λ n z e. or_none_second (occurs z.num b.term) (bound_mentions z.num v)
      (or_none_second (eqb z.num b.var.num) (occurs z.num b.term || bound_mentions z.num v) (apart.stands n z e));
}

caught-renewed : (y : ℕ) (h : ℕ → Bool) (r : ℕ → Option Var) (f : Form) (s : List Bound) → IsApart (visible h s) h r
    → caught y (λ n. free n (renewed r f)) (visible h s) ≡ caught y (λ n. free n f) (visible h s)
caught-renewed y h r f [] apart = refl
caught-renewed y h r f (b ∷ more) apart = at (h b.var.num) refl apart (caught-renewed y h r f more)
  where
    at : (q : Bool) → h b.var.num ≡ q → IsApart (cond q (visible h more) (b ∷ visible h more)) h r
        → (IsApart (visible h more) h r → caught y (λ n. free n (renewed r f)) (visible h more) ≡ caught y (λ n. free n f) (visible h more))
        → caught y (λ n. free n (renewed r f)) (cond q (visible h more) (b ∷ visible h more)) ≡ caught y (λ n. free n f) (cond q (visible h more) (b ∷ visible h more))
    at true e apart rest = rest apart
    at false e apart rest =
        λ i. (free-head h r b (visible h more) f e apart i && occurs y b.term) || rest (apart-rest h r b (visible h more) apart) i

-- where new variables are apart from what is seen of a binding, a binder catches as before
pub catches-renewed : (v : List Bound) (h : ℕ → Bool) (s : List Bound) (y : Var) (r : ℕ → Option Var) (f : Form) → v ≡ visible h s → IsApart v h r
    → catches v y (renewed r f) ≡ catches v y f
catches-renewed v h s y r f e apart =
    ap (caught y.num (λ n. free n (renewed r f))) e
    ∙ caught-renewed y.num h r f s (subst (λ v. IsApart v h r) e apart)
    ∙ sym (ap (caught y.num (λ n. free n f)) e)
