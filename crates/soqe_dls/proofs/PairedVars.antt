-- Variables in front of two formulas, and variables in place of others: the variables at one place of two lists are pairs.
-- The lists have distinct numbers, so the pairs don't hide each other.
use Rattle.std.proofs.Common.{◌≡◌, ℕ, ◌≤◌, true, false, cond, eqb, ◌||◌, List, [], ◌∷◌, Option, Some, refl, sym, ◌∙◌, ap}
use Rattle.std.proofs.lemmas.Bool.{eqb-true, eq-eqb, or_from, and_from}
use Rattle.soqe_term.specs.declared.term.Var.{Var}
use Rattle.soqe_term.specs.declared.term.Term.{Var as var}
use Rattle.soqe_number.specs.Updates.{changed}
use Rattle.soqe_term.specs.Sorting.{Sorting, over_var, is_sort}
use Rattle.soqe_term.specs.Sorting.{over_vars}
use Rattle.soqe_term.specs.Bindings.{bound_term, term_or, term_of}
use Rattle.soqe_number.proofs.Choices.{bool_cases, or_none_first, or_none_second}
use Rattle.soqe_term.proofs.Worlds.{changed-commutes, eqb-self}
use Rattle.soqe_form.specs.declared.form.Form.{Form}
use Rattle.soqe_form.specs.Boxes.{boxes}
use Rattle.soqe_form.specs.Free.{free}
use Rattle.soqe_form.specs.FreeVars.{is_among}
use Rattle.soqe_form.specs.Mentions.{depth}
use Rattle.soqe_form.specs.Same.{related, same_term, same_in}
use Rattle.soqe_form.specs.Sorted.{sorted}
use Rattle.soqe_subst.specs.Substitution.{sub}
use Rattle.soqe_psub.specs.PredSubstLaws.{with_params}
use Rattle.soqe_ack.specs.AckedLaws.{sorts_below, below}
use Rattle.soqe_ack.specs.GuardLaws.{AreDistinct}
use Rattle.soqe_ack.specs.Tries.{for_all}
use Rattle.soqe_dls.specs.ShownCases.{by_vars}
use Rattle.soqe_form.proofs.SameFronts.{Pairs}
use Rattle.soqe_dls.proofs.SameSubs.{off_pair, at_pair, same-sub}

-- ---- pairs of variables

-- the pairs of two lists of variables, the first one outermost, inside those that are there
abbrev pub paired : Pairs → List Var → List Var → Pairs
paired vs [] ys = vs
paired vs (x ∷ xs) [] = vs
paired vs (x ∷ xs) (y ∷ ys) = paired ((x.num, y.num) ∷ vs) xs ys

-- the variables of two lists have one sort each
abbrev pub HaveSameSorts : List Var → List Var → Type 0
HaveSameSorts [] [] = Unit {0}
HaveSameSorts [] (y ∷ ys) = ⊥
HaveSameSorts (x ∷ xs) [] = ⊥
HaveSameSorts (x ∷ xs) (y ∷ ys) = (x.sort ≡ y.sort) × HaveSameSorts xs ys

-- numbers of none of the variables
related-off : (vs : Pairs) (xs ys : List Var) (m n : ℕ) → is_among xs m ≡ false → is_among ys n ≡ false → related vs m n ≡ true → related (paired vs xs ys) m n ≡ true
related-off vs [] ys m n p q h = h
related-off vs (x ∷ xs) [] m n p q h = h
related-off vs (x ∷ xs) (y ∷ ys) m n p q h =
    related-off ((x.num, y.num) ∷ vs) xs ys m n (or_none_second (eqb m x.num) (is_among xs m) p) (or_none_second (eqb n y.num) (is_among ys n) q)
    (off_pair (eqb m x.num) (eqb n y.num) (related vs m n) (or_none_first (eqb m x.num) (is_among xs m) p) (or_none_first (eqb n y.num) (is_among ys n) q) h)

-- below the pairs each variable names the same as what takes its place
names-paired : (vs : Pairs) (v : ℕ → Option ℕ) (xs ys : List Var) (x : Var) → HaveSameSorts xs ys → AreDistinct xs → AreDistinct ys
    → (is_among xs x.num ≡ false → is_among ys x.num ≡ false) → (is_among xs x.num ≡ false → related vs x.num x.num ≡ true)
    → is_sort x.sort (with_params v xs x.num) ≡ true → same_term (paired vs xs ys) (var x) (term_of (by_vars xs ys) x) ≡ true
names-paired vs v [] [] x s dx dy out self k = and_from (eqb x.sort x.sort) (related vs x.num x.num) (eqb-self x.sort) (self refl)
names-paired vs v [] (b ∷ ys) x s dx dy out self k = absurd s
names-paired vs v (a ∷ xs) [] x s dx dy out self k = absurd s
names-paired vs v (a ∷ xs) (b ∷ ys) x s dx dy out self k =
    bool_cases (λ t. eqb x.num a.num ≡ t → is_sort x.sort (cond t (Some a.sort) (with_params v xs x.num)) ≡ true
    → same_term (paired ((a.num, b.num) ∷ vs) xs ys) (var x) (term_or (var x) (cond t (Some (var b)) (bound_term (by_vars xs ys) x.num))) ≡ true) (eqb x.num a.num)
    (λ u q k. and_from (eqb x.sort b.sort) (related (paired ((a.num, b.num) ∷ vs) xs ys) x.num b.num) (eq-eqb x.sort b.sort (eqb-true x.sort a.sort k ∙ s.0))
    (related-off ((a.num, b.num) ∷ vs) xs ys x.num b.num (ap (is_among xs) (eqb-true x.num a.num q) ∙ dx.0) dy.0
    (at_pair (eqb x.num a.num) (eqb b.num b.num) (related vs x.num b.num) q (eqb-self b.num))))
    (λ u q k. names-paired ((a.num, b.num) ∷ vs) v xs ys x s.1 dx.1 dy.1
    (λ r. or_none_second (eqb x.num b.num) (is_among ys x.num) (out (or_from (eqb x.num a.num) (is_among xs x.num) q r)))
    (λ r. let among : (eqb x.num a.num || is_among xs x.num) ≡ false = or_from (eqb x.num a.num) (is_among xs x.num) q r in
    off_pair (eqb x.num a.num) (eqb x.num b.num) (related vs x.num x.num) q (or_none_first (eqb x.num b.num) (is_among ys x.num) (out among)) (self among)) k)
    refl k

-- ---- sorts

-- a variable that is none of the list
params-changed : (v : ℕ → Option ℕ) (xs : List Var) (x : ℕ) (s : Option ℕ) → is_among xs x ≡ false → with_params (changed v x s) xs ≡ changed (with_params v xs) x s
params-changed v [] x s h = refl
params-changed v (y ∷ ys) x s h =
    ap (λ u. changed u y.num (Some y.sort)) (params-changed v ys x s (or_none_second (eqb x y.num) (is_among ys x) h))
    ∙ changed-commutes (with_params v ys) x y.num s (Some y.sort) (or_none_first (eqb x y.num) (is_among ys x) h)

-- of variables with distinct numbers none hides another
below-params : (v : ℕ → Option ℕ) (xs : List Var) → AreDistinct xs → sorts_below v xs ≡ with_params v xs
below-params v [] d = refl
below-params v (x ∷ xs) d = below-params (changed v x.num (Some x.sort)) xs d.1 ∙ params-changed v xs x.num (Some x.sort) d.0

-- variables in front of a formula are well sorted where the formula is below them
pub sorted-for_all : (e : Sorting) (xs : List Var) (f : Form) → sorted e (for_all xs f) ≡ sorted (below e xs) f
unfolding boxes
sorted-for_all e [] f = refl
sorted-for_all e (x ∷ xs) f = sorted-for_all (over_var e x.num x.sort) xs f

-- ---- formulas

-- variables in place of others: the formula is the same below the pairs, where no other free variable of it has a number of
-- the new ones
pub same-by_vars : (k : ℕ) (xs ys : List Var) (f : Form) → depth f ≤ k → HaveSameSorts xs ys → AreDistinct xs → AreDistinct ys
    → ((n : ℕ) → free n f ≡ true → is_among xs n ≡ false → is_among ys n ≡ false)
    → (e : Sorting) → sorted (below e xs) f ≡ true → same_in (paired [] xs ys) [] f (sub k (by_vars xs ys) f) ≡ true
same-by_vars k xs ys f d s dx dy others e o =
    same-sub k (paired [] xs ys) [] e (with_params e.variable xs) (by_vars xs ys) f d eqb-self
    (λ x free h. names-paired [] e.variable xs ys x s dx dy (others x.num free) (λ p. eqb-self x.num) h)
    (ap (λ v. sorted (over_vars e v) f) (sym (below-params e.variable xs dx)) ∙ o)

-- formulas that are the same below the pairs are the same with the variables in front
pub same-for_all : (vs ps : Pairs) (xs ys : List Var) (f g : Form) → HaveSameSorts xs ys → same_in (paired vs xs ys) ps f g ≡ true → same_in vs ps (for_all xs f) (for_all ys g) ≡ true
unfolding boxes
same-for_all vs ps [] [] f g s h = h
same-for_all vs ps [] (y ∷ ys) f g s h = absurd s
same-for_all vs ps (x ∷ xs) [] f g s h = absurd s
same-for_all vs ps (x ∷ xs) (y ∷ ys) f g s h =
    and_from (eqb x.sort y.sort) (same_in ((x.num, y.num) ∷ vs) ps (for_all xs f) (for_all ys g)) (eq-eqb x.sort y.sort s.0)
    (same-for_all ((x.num, y.num) ∷ vs) ps xs ys f g s.1 h)
