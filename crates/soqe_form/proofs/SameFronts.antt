-- Formulas that are the same below pairs of binders are the same with these binders in front: so the laws of `same`, that it is
-- symmetric and transitive, hold below pairs.
use Rattle.std.proofs.Common.{◌≡◌, ℕ, true, map, List, [], ◌∷◌, refl, sym, ◌∙◌, ap}
use Rattle.soqe_term.proofs.Worlds.{eqb-self}
use Rattle.soqe_form.specs.declared.form.Form.{Form, All, All2}
use Rattle.soqe_form.specs.Boxes.{boxes}
use Rattle.soqe_form.specs.Same.{same_in, same}
use Rattle.soqe_form.proofs.SameChains.{same-chained}
use Rattle.soqe_form.proofs.SameOrder.{IsDiagonal, diagonal-under, same-turned}

abbrev pub Pairs : Type 0
Pairs = List (ℕ × ℕ)

abbrev pub lefts : Pairs → List ℕ
lefts vs = map (λ p. p.0) vs

abbrev pub rights : Pairs → List ℕ
rights vs = map (λ p. p.1) vs

-- ---- binders in front

-- binders of variables of one sort, the first number innermost
abbrev with_vars : List ℕ → Form → Form
with_vars [] f = f
with_vars (n ∷ ns) f = with_vars ns (All (record { num = n; sort = 0 }) f)

-- binders of predicates without arguments
abbrev with_preds : List ℕ → Form → Form
with_preds [] f = f
with_preds (n ∷ ns) f = with_preds ns (All2 (record { num = n; args = [] }) f)

abbrev whole : List ℕ → List ℕ → Form → Form
whole ms ns f = with_vars ms (with_preds ns f)

vars-in_front : (vs : Pairs) (f g : Form) → same (with_vars (lefts vs) f) (with_vars (rights vs) g) ≡ same_in vs [] f g
unfolding boxes
vars-in_front [] f g = refl
vars-in_front (p ∷ vs) f g = vars-in_front vs (All (record { num = p.0; sort = 0 }) f) (All (record { num = p.1; sort = 0 }) g)

preds-in_front : (vs ps : Pairs) (f g : Form) → same_in vs [] (with_preds (lefts ps) f) (with_preds (rights ps) g) ≡ same_in vs ps f g
unfolding boxes
preds-in_front vs [] f g = refl
preds-in_front vs (p ∷ ps) f g = preds-in_front vs ps (All2 (record { num = p.0; args = [] }) f) (All2 (record { num = p.1; args = [] }) g)

in_front : (vs ps : Pairs) (f g : Form) → same (whole (lefts vs) (lefts ps) f) (whole (rights vs) (rights ps) g) ≡ same_in vs ps f g
in_front vs ps f g = vars-in_front vs (with_preds (lefts ps) f) (with_preds (rights ps) g) ∙ preds-in_front vs ps f g

-- ---- each number with itself

abbrev pub twins : List ℕ → Pairs
twins ns = map (λ n. (n, n)) ns

pub lefts-twins : (ns : List ℕ) → lefts (twins ns) ≡ ns
lefts-twins [] = refl
lefts-twins (n ∷ ns) = ap (λ l. n ∷ l) (lefts-twins ns)

pub rights-twins : (ns : List ℕ) → rights (twins ns) ≡ ns
rights-twins [] = refl
rights-twins (n ∷ ns) = ap (λ l. n ∷ l) (rights-twins ns)

pub twins-diagonal : (ns : List ℕ) → IsDiagonal (twins ns)
twins-diagonal [] n = eqb-self n
twins-diagonal (m ∷ ns) n = diagonal-under (twins ns) m (twins-diagonal ns) n

-- ---- symmetric and transitive

pub same_in-turned : (ms ns : List ℕ) (f g : Form) → same_in (twins ms) (twins ns) f g ≡ same_in (twins ms) (twins ns) g f
same_in-turned ms ns f g =
    sym (in_front (twins ms) (twins ns) f g)
    ∙ same-turned (whole (lefts (twins ms)) (lefts (twins ns)) f) (whole (rights (twins ms)) (rights (twins ns)) g)
    ∙ (λ i. same (whole (rights-twins ms i) (rights-twins ns i) g) (whole (lefts-twins ms i) (lefts-twins ns i) f))
    ∙ sym (λ i. same (whole (lefts-twins ms i) (lefts-twins ns i) g) (whole (rights-twins ms i) (rights-twins ns i) f))
    ∙ in_front (twins ms) (twins ns) g f

-- pairs that fit together, one list behind the other
pub record FitTogether (us vs ws : Pairs) : Type 0 where
  pub middle : rights us ≡ lefts vs
  pub first : lefts us ≡ lefts ws
  pub last : rights vs ≡ rights ws

pub fit-first : (vs : Pairs) → FitTogether (twins (lefts vs)) vs vs
fit-first vs = record { middle = rights-twins (lefts vs); first = lefts-twins (lefts vs); last = refl }

pub fit-last : (vs : Pairs) → FitTogether vs (twins (rights vs)) vs
fit-last vs = record { middle = sym (lefts-twins (rights vs)); first = refl; last = rights-twins (rights vs) }

pub fit-under : (us vs ws : Pairs) (x y z : ℕ) → FitTogether us vs ws → FitTogether ((x, y) ∷ us) ((y, z) ∷ vs) ((x, z) ∷ ws)
fit-under us vs ws x y z h = record { middle = ap (λ l. y ∷ l) h.middle; first = ap (λ l. x ∷ l) h.first; last = ap (λ l. z ∷ l) h.last }

pub same_in-chained : (us vs ws ts ps qs : Pairs) (f g h : Form) → FitTogether us vs ws → FitTogether ts ps qs → same_in us ts f g ≡ true → same_in vs ps g h ≡ true → same_in ws qs f h ≡ true
same_in-chained us vs ws ts ps qs f g h j k o p =
    let first : same (whole (lefts ws) (lefts qs) f) (whole (lefts vs) (lefts ps) g) ≡ true =
    sym (λ i. same (whole (j.first i) (k.first i) f) (whole (j.middle i) (k.middle i) g)) ∙ in_front us ts f g ∙ o in
    let second : same (whole (lefts vs) (lefts ps) g) (whole (rights ws) (rights qs) h) ≡ true =
    sym (λ i. same (whole (lefts vs) (lefts ps) g) (whole (j.last i) (k.last i) h)) ∙ in_front vs ps g h ∙ p in
    sym (in_front ws qs f h) ∙ same-chained (whole (lefts ws) (lefts qs) f) (whole (lefts vs) (lefts ps) g) (whole (rights ws) (rights qs) h) first second
