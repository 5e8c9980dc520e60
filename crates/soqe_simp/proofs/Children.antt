-- What is done with, and what holds of, the children of a formula.
use Rattle.std.proofs.Common.{◌≡◌, ◌<◌, true, ◌&&◌, refl, arith}
use Rattle.std.proofs.lemmas.Bool.{and_from}
use Rattle.soqe_number.proofs.Choices.{and_first, and_second}
use Rattle.soqe_form.specs.declared.form.Form.{Form, True, False, Equal, Atom, Not, Not', And, And', Or, Or', Imp, Imp', Iff, Iff', All, All', Ex, Ex', All2, All2', Ex2, Ex2', end_of-Form as end, more_of-Form as one}
use Rattle.soqe_form.specs.Boxes.{boxes}
use Rattle.soqe_simp.specs.Weight.{weight}
use Rattle.soqe_simp.specs.Normal.{is_settled, is_simple}
use Rattle.soqe_simp.specs.Simplified.{on_children}
use Rattle.soqe_simp.specs.Ready.{Children}

-- what holds of each lighter formula holds of the children
pub children-lighter : (P : Form → Type 0) (f : Form) → ((a : Form) → weight a < weight f → P a) → Children P f
children-lighter P True h = tt
children-lighter P False h = tt
children-lighter P (Equal s t) h = tt
children-lighter P (Atom p ts) h = tt
children-lighter P (Not' _ (one f end)) h = h f (omega (arith))
children-lighter P (And' _ (one f end) _ (one g end)) h = (h f (omega (arith)), h g (omega (arith)))
children-lighter P (Or' _ (one f end) _ (one g end)) h = (h f (omega (arith)), h g (omega (arith)))
children-lighter P (Imp' _ (one f end) _ (one g end)) h = (h f (omega (arith)), h g (omega (arith)))
children-lighter P (Iff' _ (one f end) _ (one g end)) h = (h f (omega (arith)), h g (omega (arith)))
children-lighter P (All' x _ (one f end)) h = h f (omega (arith))
children-lighter P (Ex' x _ (one f end)) h = h f (omega (arith))
children-lighter P (All2' p _ (one f end)) h = h f (omega (arith))
children-lighter P (Ex2' p _ (one f end)) h = h f (omega (arith))

-- what follows for each child from what holds of it
pub children-map : (P Q : Form → Type 0) → ((a : Form) → P a → Q a) → (f : Form) → Children P f → Children Q f
children-map P Q k True h = tt
children-map P Q k False h = tt
children-map P Q k (Equal s t) h = tt
children-map P Q k (Atom p ts) h = tt
children-map P Q k (Not' _ (one f end)) h = k f h
children-map P Q k (And' _ (one f end) _ (one g end)) h = (k f h.0, k g h.1)
children-map P Q k (Or' _ (one f end) _ (one g end)) h = (k f h.0, k g h.1)
children-map P Q k (Imp' _ (one f end) _ (one g end)) h = (k f h.0, k g h.1)
children-map P Q k (Iff' _ (one f end) _ (one g end)) h = (k f h.0, k g h.1)
children-map P Q k (All' x _ (one f end)) h = k f h
children-map P Q k (Ex' x _ (one f end)) h = k f h
children-map P Q k (All2' p _ (one f end)) h = k f h
children-map P Q k (Ex2' p _ (one f end)) h = k f h

-- two changes that give one formula for each child
pub children-equal : (s t : Form → Form) (f : Form) → Children (λ a. s a ≡ t a) f → on_children s f ≡ on_children t f
children-equal s t True h = refl
children-equal s t False h = refl
children-equal s t (Equal u v) h = refl
children-equal s t (Atom p ts) h = refl
children-equal s t (Not' _ (one f end)) h = λ i. Not (h i)
children-equal s t (And' _ (one f end) _ (one g end)) h = λ i. And (h.0 i) (h.1 i)
children-equal s t (Or' _ (one f end) _ (one g end)) h = λ i. Or (h.0 i) (h.1 i)
children-equal s t (Imp' _ (one f end) _ (one g end)) h = λ i. Imp (h.0 i) (h.1 i)
children-equal s t (Iff' _ (one f end) _ (one g end)) h = λ i. Iff (h.0 i) (h.1 i)
children-equal s t (All' x _ (one f end)) h = λ i. All x (h i)
children-equal s t (Ex' x _ (one f end)) h = λ i. Ex x (h i)
children-equal s t (All2' p _ (one f end)) h = λ i. All2 p (h i)
children-equal s t (Ex2' p _ (one f end)) h = λ i. Ex2 p (h i)

-- a change that leaves each child as it is
pub children-stay : (s : Form → Form) (f : Form) → Children (λ a. s a ≡ a) f → on_children s f ≡ f
unfolding boxes
children-stay s True h = refl
children-stay s False h = refl
children-stay s (Equal u v) h = refl
children-stay s (Atom p ts) h = refl
children-stay s (Not' _ (one f end)) h = λ i. Not (h i)
children-stay s (And' _ (one f end) _ (one g end)) h = λ i. And (h.0 i) (h.1 i)
children-stay s (Or' _ (one f end) _ (one g end)) h = λ i. Or (h.0 i) (h.1 i)
children-stay s (Imp' _ (one f end) _ (one g end)) h = λ i. Imp (h.0 i) (h.1 i)
children-stay s (Iff' _ (one f end) _ (one g end)) h = λ i. Iff (h.0 i) (h.1 i)
children-stay s (All' x _ (one f end)) h = λ i. All x (h i)
children-stay s (Ex' x _ (one f end)) h = λ i. Ex x (h i)
children-stay s (All2' p _ (one f end)) h = λ i. All2 p (h i)
children-stay s (Ex2' p _ (one f end)) h = λ i. Ex2 p (h i)

-- what holds of each changed child
pub children-changed : (P : Form → Type 0) (s : Form → Form) (f : Form) → Children (λ a. P (s a)) f → Children P (on_children s f)
unfolding boxes
children-changed P s True h = h
children-changed P s False h = h
children-changed P s (Equal u v) h = h
children-changed P s (Atom p ts) h = h
children-changed P s (Not' _ (one f end)) h = h
children-changed P s (And' _ (one f end) _ (one g end)) h = h
children-changed P s (Or' _ (one f end) _ (one g end)) h = h
children-changed P s (Imp' _ (one f end) _ (one g end)) h = h
children-changed P s (Iff' _ (one f end) _ (one g end)) h = h
children-changed P s (All' x _ (one f end)) h = h
children-changed P s (Ex' x _ (one f end)) h = h
children-changed P s (All2' p _ (one f end)) h = h
children-changed P s (Ex2' p _ (one f end)) h = h

-- the children of a simple formula are simple
pub children-simple : (f : Form) → is_simple f ≡ true → Children (λ a. is_simple a ≡ true) f
children-simple True h = tt
children-simple False h = tt
children-simple (Equal s t) h = tt
children-simple (Atom p ts) h = tt
children-simple (Not' _ (one f end)) h = and_second (is_settled (Not f)) (is_simple f) h
children-simple (And' _ (one f end) _ (one g end)) h = let b = and_second (is_settled (And f g)) (is_simple f && is_simple g) h in (and_first (is_simple f) (is_simple g) b, and_second (is_simple f) (is_simple g) b)
children-simple (Or' _ (one f end) _ (one g end)) h = let b = and_second (is_settled (Or f g)) (is_simple f && is_simple g) h in (and_first (is_simple f) (is_simple g) b, and_second (is_simple f) (is_simple g) b)
children-simple (Imp' _ (one f end) _ (one g end)) h = let b = and_second (is_settled (Imp f g)) (is_simple f && is_simple g) h in (and_first (is_simple f) (is_simple g) b, and_second (is_simple f) (is_simple g) b)
children-simple (Iff' _ (one f end) _ (one g end)) h = let b = and_second (is_settled (Iff f g)) (is_simple f && is_simple g) h in (and_first (is_simple f) (is_simple g) b, and_second (is_simple f) (is_simple g) b)
children-simple (All' x _ (one f end)) h = and_second (is_settled (All x f)) (is_simple f) h
children-simple (Ex' x _ (one f end)) h = and_second (is_settled (Ex x f)) (is_simple f) h
children-simple (All2' p _ (one f end)) h = and_second (is_settled (All2 p f)) (is_simple f) h
children-simple (Ex2' p _ (one f end)) h = and_second (is_settled (Ex2 p f)) (is_simple f) h

-- and its root is settled
pub root-settled : (f : Form) → is_simple f ≡ true → is_settled f ≡ true
unfolding boxes
root-settled True h = h
root-settled False h = h
root-settled (Equal s t) h = h
root-settled (Atom p ts) h = h
root-settled (Not' _ (one f end)) h = and_first (is_settled (Not f)) (is_simple f) h
root-settled (And' _ (one f end) _ (one g end)) h = and_first (is_settled (And f g)) (is_simple f && is_simple g) h
root-settled (Or' _ (one f end) _ (one g end)) h = and_first (is_settled (Or f g)) (is_simple f && is_simple g) h
root-settled (Imp' _ (one f end) _ (one g end)) h = and_first (is_settled (Imp f g)) (is_simple f && is_simple g) h
root-settled (Iff' _ (one f end) _ (one g end)) h = and_first (is_settled (Iff f g)) (is_simple f && is_simple g) h
root-settled (All' x _ (one f end)) h = and_first (is_settled (All x f)) (is_simple f) h
root-settled (Ex' x _ (one f end)) h = and_first (is_settled (Ex x f)) (is_simple f) h
root-settled (All2' p _ (one f end)) h = and_first (is_settled (All2 p f)) (is_simple f) h
root-settled (Ex2' p _ (one f end)) h = and_first (is_settled (Ex2 p f)) (is_simple f) h

-- a settled formula with simple children is simple
pub simple-from : (f : Form) → is_settled f ≡ true → Children (λ a. is_simple a ≡ true) f → is_simple f ≡ true
unfolding boxes
simple-from True r h = r
simple-from False r h = r
simple-from (Equal s t) r h = r
simple-from (Atom p ts) r h = r
simple-from (Not' _ (one f end)) r h = and_from (is_settled (Not f)) (is_simple f) r h
simple-from (And' _ (one f end) _ (one g end)) r h = and_from (is_settled (And f g)) (is_simple f && is_simple g) r (and_from (is_simple f) (is_simple g) h.0 h.1)
simple-from (Or' _ (one f end) _ (one g end)) r h = and_from (is_settled (Or f g)) (is_simple f && is_simple g) r (and_from (is_simple f) (is_simple g) h.0 h.1)
simple-from (Imp' _ (one f end) _ (one g end)) r h = and_from (is_settled (Imp f g)) (is_simple f && is_simple g) r (and_from (is_simple f) (is_simple g) h.0 h.1)
simple-from (Iff' _ (one f end) _ (one g end)) r h = and_from (is_settled (Iff f g)) (is_simple f && is_simple g) r (and_from (is_simple f) (is_simple g) h.0 h.1)
simple-from (All' x _ (one f end)) r h = and_from (is_settled (All x f)) (is_simple f) r h
simple-from (Ex' x _ (one f end)) r h = and_from (is_settled (Ex x f)) (is_simple f) r h
simple-from (All2' p _ (one f end)) r h = and_from (is_settled (All2 p f)) (is_simple f) r h
simple-from (Ex2' p _ (one f end)) r h = and_from (is_settled (Ex2 p f)) (is_simple f) r h
