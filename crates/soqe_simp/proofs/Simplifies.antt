-- A formula that is made simple keeps what has to be kept: so does each change of its children, and each row.
use Rattle.std.proofs.Common.{◌≡◌, ℕ, zero, suc, Bool, true, false, cond, eqb, not, ◌&&◌, ◌||◌, [], ◌∷◌, Option, Some, None, refl, sym, ◌∙◌, arith}
use Rattle.std.proofs.lemmas.Bool.{and_from, or_left}
use Rattle.soqe_term.specs.Sorting.{Sorting, over_var, over_bound}
use Rattle.soqe_number.proofs.Choices.{and_first, and_second}
use Rattle.soqe_form.specs.declared.form.Form.{Form, True, False, Equal, Atom, Not', And', Or', Imp', Iff', All, All', Ex, Ex', All2, All2', Ex2, Ex2', end_of-Form as end, more_of-Form as one}
use Rattle.soqe_form.specs.Boxes.{boxes}
use Rattle.soqe_form.specs.Alike.{AlikeIn}
use Rattle.soqe_form.specs.Truth.{alike as equivalent}
use Rattle.soqe_form.specs.Free.{free, free_pred}
use Rattle.soqe_form.specs.Sorted.{sorted}
use Rattle.soqe_form.specs.Places.{part_at, put_at, scope_at}
use Rattle.soqe_form.proofs.Places.{truth-put_at}
use Rattle.soqe_simp.specs.Weight.{weight}
use Rattle.soqe_simp.specs.Keeps.{KeepsIn}
use Rattle.soqe_simp.specs.Step.{step}
use Rattle.soqe_simp.specs.Simplified.{on_children, then_on, root_simplified, simplified}
use Rattle.soqe_simp.specs.Simplifies.{Simplifies, SimplifyKeeps}
use Rattle.soqe_simp.proofs.Kept.{or_right}
use Rattle.soqe_simp.specs.Ready.{Children}
use Rattle.soqe_simp.proofs.Children.{children-lighter}
use Rattle.soqe_simp.proofs.Steps.{step-keeps}

pub simplifies-itself : (f : Form) → Simplifies f f
simplifies-itself f = record { alike = λ e s w h. refl; sorts = λ e s. s; free = λ n h. h; free_pred = λ n h. h; count = omega (arith); weight = omega (arith) }

pub simplifies-then : (f g h : Form) → Simplifies f g → Simplifies g h → Simplifies f h
simplifies-then f g h k l = record {
  alike = λ e s w fits. k.alike e s w fits ∙ l.alike e (k.sorts e s) w fits;
  sorts = λ e s. l.sorts e (k.sorts e s);
  free = λ n m. k.free n (l.free n m);
  free_pred = λ n m. k.free_pred n (l.free_pred n m);
  count = omega (arith, k.count, l.count);
  weight = omega (arith, k.weight, l.weight);
}

pub simplifies-kept : (f g : Form) → KeepsIn f g → Simplifies f g
simplifies-kept f g k = record {
  alike = k.alike;
  sorts = k.shrinks.sorts;
  free = k.shrinks.free;
  free_pred = k.shrinks.free_pred;
  count = k.shrinks.count;
  weight = omega (arith, k.shrinks.weight);
}

-- ---- a change of the children

either : (a b c d : Bool) → (c ≡ true → a ≡ true) → (d ≡ true → b ≡ true) → (c || d) ≡ true → (a || b) ≡ true
either a b true d k l h = or_left a b (k refl)
either a b false d k l h = or_right a b (l h)

both : (a b c d : Bool) → (a ≡ true → c ≡ true) → (b ≡ true → d ≡ true) → (a && b) ≡ true → (c && d) ≡ true
both a b c d k l h = and_from c d (k (and_first a b h)) (l (and_second a b h))

-- below a binder of a number: cond (eqb n x) false
hidden : (c a b : Bool) → (b ≡ true → a ≡ true) → cond c false b ≡ true → cond c false a ≡ true
hidden true a b k h = h
hidden false a b k h = k h

-- truth with one child changed, below a quantifier
below : (e : Sorting) (f whole a : Form) → part_at (0 ∷ []) whole ≡ Some f → AlikeIn (scope_at (0 ∷ []) whole e) f a → AlikeIn e whole (put_at (0 ∷ []) a whole)
below e f whole a p h w fits = sym (truth-put_at (0 ∷ []) whole f a p e (λ v k. sym (h v k)) w fits)

pub simplifies-children : (s : Form → Form) (f : Form) → Children (λ a. Simplifies a (s a)) f → Simplifies f (on_children s f)
unfolding boxes
simplifies-children s True h = simplifies-itself True
simplifies-children s False h = simplifies-itself False
simplifies-children s (Equal t u) h = simplifies-itself (Equal t u)
simplifies-children s (Atom p ts) h = simplifies-itself (Atom p ts)
simplifies-children s (Not' _ (one f end)) h = record {
  alike = λ e o w fits i. not (h.alike e o w fits i);
  sorts = h.sorts;
  free = h.free;
  free_pred = h.free_pred;
  count = h.count;
  weight = omega (arith, h.weight);
}
simplifies-children s (And' _ (one f end) _ (one g end)) h = record {
  alike = λ e o w fits i. h.0.alike e (and_first (sorted e f) (sorted e g) o) w fits i && h.1.alike e (and_second (sorted e f) (sorted e g) o) w fits i;
  sorts = λ e. both (sorted e f) (sorted e g) (sorted e (s f)) (sorted e (s g)) (h.0.sorts e) (h.1.sorts e);
  free = λ n. either (free n f) (free n g) (free n (s f)) (free n (s g)) (h.0.free n) (h.1.free n);
  free_pred = λ n. either (free_pred n f) (free_pred n g) (free_pred n (s f)) (free_pred n (s g)) (h.0.free_pred n) (h.1.free_pred n);
  count = omega (arith, h.0.count, h.1.count);
  weight = omega (arith, h.0.weight, h.1.weight);
}
simplifies-children s (Or' _ (one f end) _ (one g end)) h = record {
  alike = λ e o w fits i. h.0.alike e (and_first (sorted e f) (sorted e g) o) w fits i || h.1.alike e (and_second (sorted e f) (sorted e g) o) w fits i;
  sorts = λ e. both (sorted e f) (sorted e g) (sorted e (s f)) (sorted e (s g)) (h.0.sorts e) (h.1.sorts e);
  free = λ n. either (free n f) (free n g) (free n (s f)) (free n (s g)) (h.0.free n) (h.1.free n);
  free_pred = λ n. either (free_pred n f) (free_pred n g) (free_pred n (s f)) (free_pred n (s g)) (h.0.free_pred n) (h.1.free_pred n);
  count = omega (arith, h.0.count, h.1.count);
  weight = omega (arith, h.0.weight, h.1.weight);
}
simplifies-children s (Imp' _ (one f end) _ (one g end)) h = record {
  alike = λ e o w fits i. not (h.0.alike e (and_first (sorted e f) (sorted e g) o) w fits i) || h.1.alike e (and_second (sorted e f) (sorted e g) o) w fits i;
  sorts = λ e. both (sorted e f) (sorted e g) (sorted e (s f)) (sorted e (s g)) (h.0.sorts e) (h.1.sorts e);
  free = λ n. either (free n f) (free n g) (free n (s f)) (free n (s g)) (h.0.free n) (h.1.free n);
  free_pred = λ n. either (free_pred n f) (free_pred n g) (free_pred n (s f)) (free_pred n (s g)) (h.0.free_pred n) (h.1.free_pred n);
  count = omega (arith, h.0.count, h.1.count);
  weight = omega (arith, h.0.weight, h.1.weight);
}
simplifies-children s (Iff' _ (one f end) _ (one g end)) h = record {
  alike = λ e o w fits i. equivalent (h.0.alike e (and_first (sorted e f) (sorted e g) o) w fits i) (h.1.alike e (and_second (sorted e f) (sorted e g) o) w fits i);
  sorts = λ e. both (sorted e f) (sorted e g) (sorted e (s f)) (sorted e (s g)) (h.0.sorts e) (h.1.sorts e);
  free = λ n. either (free n f) (free n g) (free n (s f)) (free n (s g)) (h.0.free n) (h.1.free n);
  free_pred = λ n. either (free_pred n f) (free_pred n g) (free_pred n (s f)) (free_pred n (s g)) (h.0.free_pred n) (h.1.free_pred n);
  count = omega (arith, h.0.count, h.1.count);
  weight = omega (arith, h.0.weight, h.1.weight);
}
simplifies-children s (All' x _ (one f end)) h = record {
  alike = λ e o. below e f (All x f) (s f) refl (h.alike (over_var e x.num x.sort) o);
  sorts = λ e. h.sorts (over_var e x.num x.sort);
  free = λ n. hidden (eqb n x.num) (free n f) (free n (s f)) (h.free n);
  free_pred = h.free_pred;
  count = h.count;
  weight = omega (arith, h.weight);
}
simplifies-children s (Ex' x _ (one f end)) h = record {
  alike = λ e o. below e f (Ex x f) (s f) refl (h.alike (over_var e x.num x.sort) o);
  sorts = λ e. h.sorts (over_var e x.num x.sort);
  free = λ n. hidden (eqb n x.num) (free n f) (free n (s f)) (h.free n);
  free_pred = h.free_pred;
  count = h.count;
  weight = omega (arith, h.weight);
}
simplifies-children s (All2' p _ (one f end)) h = record {
  alike = λ e o. below e f (All2 p f) (s f) refl (h.alike (over_bound e p.num p.args) o);
  sorts = λ e. h.sorts (over_bound e p.num p.args);
  free = h.free;
  free_pred = λ n. hidden (eqb n p.num) (free_pred n f) (free_pred n (s f)) (h.free_pred n);
  count = omega (arith, h.count);
  weight = omega (arith, h.weight);
}
simplifies-children s (Ex2' p _ (one f end)) h = record {
  alike = λ e o. below e f (Ex2 p f) (s f) refl (h.alike (over_bound e p.num p.args) o);
  sorts = λ e. h.sorts (over_bound e p.num p.args);
  free = h.free;
  free_pred = λ n. hidden (eqb n p.num) (free_pred n f) (free_pred n (s f)) (h.free_pred n);
  count = omega (arith, h.count);
  weight = omega (arith, h.weight);
}

-- ---- a row at the root, and the whole

-- a fact at each answer of an option
pub at_option : {A : Type 0} (P : Option A → Type 0) (o : Option A) → (o ≡ None → P None) → ((a : A) → o ≡ Some a → P (Some a)) → P o
at_option P None n s = n refl
at_option P (Some a) n s = s a refl

pub simplifies-root : (s : Form → Form) (f : Form) → ((a : Form) → Simplifies a (s a)) → Simplifies f (root_simplified s f)
simplifies-root s f h = at_option (λ o. Simplifies f (then_on s o f)) (step f) (λ e. simplifies-itself f)
    (λ r e. simplifies-then f r.form (s r.form) (simplifies-kept f r.form (step-keeps f r e)) (h r.form))

pub simplified-keeps : (k : ℕ) (f : Form) → Simplifies f (simplified k f)
simplified-keeps zero f = simplifies-itself f
simplified-keeps (suc k) f = simplifies-then f (on_children (simplified k) f) (simplified (suc k) f)
    (simplifies-children (simplified k) f (children-lighter (λ a. Simplifies a (simplified k a)) f (λ a l. simplified-keeps k a)))
    (simplifies-root (simplified k) (on_children (simplified k) f) (λ a. simplified-keeps k a))

pub simplify-keeps : SimplifyKeeps
simplify-keeps f = simplified-keeps (weight f) f
