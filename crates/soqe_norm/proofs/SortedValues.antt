-- A formula with a truth value for a predicate is well sorted where the formula is so below a binder of the predicate.
use Rattle.std.proofs.Common.{◌≡◌, ℕ, Bool, true, false, cond, eqb, ◌&&◌, List, Option, Some, refl, sym, ◌∙◌, ap}
use Rattle.std.proofs.lemmas.Bool.{eqb-true, and_parts, and_from}
use Rattle.soqe_term.specs.declared.term.Terms.{Terms}
use Rattle.soqe_number.specs.Updates.{changed}
use Rattle.soqe_term.specs.Sorting.{Sorting, over_var, over_bound, with_sorts, own_sort, sorted_terms}
use Rattle.soqe_term.proofs.Sortings.{sorted_term-agree, sorted_terms-agree}
use Rattle.soqe_term.proofs.Worlds.{changed-again, changed-commutes}
use Rattle.soqe_form.specs.declared.form.Pred.{Pred}
use Rattle.soqe_form.specs.declared.form.Pred.TheVariants.{Decl, Bound}
use Rattle.soqe_form.specs.declared.form.Form.{Form, True, False, Equal, Atom, Not', And', Or', Imp', Iff', All', Ex', All2', Ex2', end_of-Form as end, more_of-Form as one}
use Rattle.soqe_form.specs.Boxes.{boxes}
use Rattle.soqe_form.specs.Free.{is_bound}
use Rattle.soqe_form.specs.Sorted.{sorted}
use Rattle.soqe_form.specs.Constants.{constant}
use Rattle.soqe_norm.specs.Valued.{valued}
use Rattle.soqe_form.proofs.Numbers.{eqb-swap}

module _ (m : ℕ) (v : Bool) (kinds : List ℕ) where
  constant-sorted : (e : Sorting) → sorted e (constant v) ≡ true
  constant-sorted e = shown v
    where
      shown : (v : Bool) → sorted e (constant v) ≡ true
      shown true = refl
      shown false = refl

  terms-known : (e : Sorting) (ts : Terms) (known : Option (List ℕ)) → with_sorts (λ sorts. sorted_terms (over_bound e m kinds) ts sorts) known ≡ with_sorts (λ sorts. sorted_terms e ts sorts) known
  terms-known e ts known = λ i. with_sorts (λ sorts. sorted_terms-agree e e.variable e.variable (changed e.bound m (Some kinds)) e.bound ts sorts (λ n o. refl) i) known

  atom-sorted : (e : Sorting) (q : Pred) (ts : Terms) → sorted (over_bound e m kinds) (Atom q ts) ≡ true → sorted e (cond (is_bound m q) (constant v) (Atom q ts)) ≡ true
  atom-sorted e (Decl n) ts h = sym (terms-known e ts (e.declared n)) ∙ h
  atom-sorted e (Bound n) ts h = choose (eqb m n) refl
    where
      choose : (b : Bool) → eqb m n ≡ b → sorted e (cond b (constant v) (Atom (Bound n) ts)) ≡ true
      choose true d = constant-sorted e
      choose false d =
          sym (terms-known e ts (e.bound n))
          ∙ (λ i. with_sorts (λ sorts. sorted_terms (over_bound e m kinds) ts sorts) (cond (sym (eqb-swap m n d) i) (Some kinds) (e.bound n)))
          ∙ h

  abbrev pub Stays : Sorting → Form → Type 0
  Stays e f = sorted (over_bound e m kinds) f ≡ true → sorted e (valued m v f) ≡ true

  below-sorted : (e : Sorting) (p : ℕ) (sorts : List ℕ) (f : Form) → Stays (over_bound e p sorts) f
      → sorted (over_bound (over_bound e m kinds) p sorts) f ≡ true → sorted (over_bound e p sorts) (cond (eqb m p) f (valued m v f)) ≡ true
  below-sorted e p sorts f k h = choose (eqb m p) refl
    where
      choose : (b : Bool) → eqb m p ≡ b → sorted (over_bound e p sorts) (cond b f (valued m v f)) ≡ true
      choose true d = sym (ap (λ n. sorted (over_bound (over_bound e n kinds) p sorts) f) (eqb-true m p d) ∙ (λ i. sorted (record e { bound = changed-again e.bound p (Some kinds) (Some sorts) i }) f)) ∙ h
      choose false d = k (sym (λ i. sorted (record e { bound = changed-commutes e.bound m p (Some kinds) (Some sorts) d i }) f) ∙ h)

  two-sorted : (e : Sorting) (f g : Form) → Stays e f → Stays e g → (sorted (over_bound e m kinds) f && sorted (over_bound e m kinds) g) ≡ true
      → (sorted e (valued m v f) && sorted e (valued m v g)) ≡ true
  two-sorted e f g a b h = let q = and_parts (sorted (over_bound e m kinds) f) (sorted (over_bound e m kinds) g) h in
      and_from (sorted e (valued m v f)) (sorted e (valued m v g)) (a q.0) (b q.1)

  pub sorted-valued : (e : Sorting) (f : Form) → Stays e f
  unfolding boxes
  sorted-valued e True h = h
  sorted-valued e False h = h
  sorted-valued e (Equal s t) h =
      sym (λ i. sorted_term-agree e e.variable e.variable (changed e.bound m (Some kinds)) e.bound s (λ n o. refl) i && (sorted_term-agree e e.variable e.variable (changed e.bound m (Some kinds)) e.bound t (λ n o. refl) i && eqb (own_sort s) (own_sort t))) ∙ h
  sorted-valued e (Atom q ts) h = atom-sorted e q ts h
  sorted-valued e (Not' _ (one f end)) h = sorted-valued e f h
  sorted-valued e (And' _ (one f end) _ (one g end)) h = two-sorted e f g (sorted-valued e f) (sorted-valued e g) h
  sorted-valued e (Or' _ (one f end) _ (one g end)) h = two-sorted e f g (sorted-valued e f) (sorted-valued e g) h
  sorted-valued e (Imp' _ (one f end) _ (one g end)) h = two-sorted e f g (sorted-valued e f) (sorted-valued e g) h
  sorted-valued e (Iff' _ (one f end) _ (one g end)) h = two-sorted e f g (sorted-valued e f) (sorted-valued e g) h
  sorted-valued e (All' x _ (one f end)) h = sorted-valued (over_var e x.num x.sort) f h
  sorted-valued e (Ex' x _ (one f end)) h = sorted-valued (over_var e x.num x.sort) f h
  sorted-valued e (All2' p _ (one f end)) h = below-sorted e p.num p.args f (sorted-valued (over_bound e p.num p.args) f) h
  sorted-valued e (Ex2' p _ (one f end)) h = below-sorted e p.num p.args f (sorted-valued (over_bound e p.num p.args) f) h
