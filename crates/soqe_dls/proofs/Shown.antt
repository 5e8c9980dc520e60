-- A value as it is shown. With the parameters in front, each parameter makes a pair with the one that is shown in its place, and
-- no other free variable of the value has a number that is shown. Below these pairs the value is the same as with the new
-- parameters, and that is the same as its tidy formula.
use Rattle.std.proofs.Common.{◌≡◌, ℕ, Bool, true, false, eqb, not, ◌||◌, ◌&&◌, map, List, [], ◌∷◌, refl, sym, ◌∙◌, ap, arith}
use Rattle.std.proofs.lemmas.Bool.{both_ways, and_from}
use Rattle.soqe_term.specs.declared.term.Var.{Var}
use Rattle.soqe_term.specs.Sorting.{Sorting}
use Rattle.soqe_number.specs.Unused.{member}
use Rattle.soqe_number.proofs.Choices.{bool_cases, or_none_first, or_none_second}
use Rattle.soqe_term.proofs.Worlds.{eqb-self}
use Rattle.soqe_form.specs.declared.form.Form.{Form}
use Rattle.soqe_form.specs.Free.{free}
use Rattle.soqe_form.specs.FreeVars.{is_among}
use Rattle.soqe_form.specs.Mentions.{depth}
use Rattle.soqe_form.specs.Same.{same_in, same}
use Rattle.soqe_form.specs.Sorted.{sorted}
use Rattle.soqe_subst.specs.Substitution.{sub}
use Rattle.soqe_tidy.specs.Tidy.{tidy}
use Rattle.soqe_form.proofs.SameOrder.{same-turned}
use Rattle.soqe_form.proofs.SameSorted.{sorted-same}
use Rattle.soqe_tidy.proofs.Tidied.{same-tidied}
use Rattle.soqe_ack.specs.Acked.{AreParameters}
use Rattle.soqe_ack.specs.AckedLaws.{below}
use Rattle.soqe_ack.specs.GuardLaws.{AreDistinct}
use Rattle.soqe_ack.specs.Tries.{for_all}
use Rattle.soqe_dls.specs.ShownCases.{by_vars, IsShown}
use Rattle.soqe_ack.proofs.ParameterNumbers.{parameters-unused, parameters-distinct, one-parameters}
use Rattle.soqe_form.proofs.SameFronts.{Pairs, rights, twins, twins-diagonal, same_in-turned, fit-last, same_in-chained}
use Rattle.soqe_dls.proofs.PairedVars.{HaveSameSorts, paired, same-by_vars, same-for_all, sorted-for_all}

-- ---- the parameters that are shown

-- each has the sort of the parameter in whose place it is shown
same-sorts : (used : ℕ → Bool) (xs ys : List Var) → AreParameters used (map (λ x. x.sort) xs) ys → HaveSameSorts xs ys
same-sorts used [] [] h = tt
same-sorts used [] (y ∷ ys) h = h
same-sorts used (x ∷ xs) [] h = h
same-sorts used (x ∷ xs) (y ∷ ys) h = (sym h.0, same-sorts (λ n. eqb n y.num || used n) xs ys h.2)

-- a number is to be kept out, or is that of a free variable of the value that is no parameter
abbrev is_out : List ℕ → List Var → Form → ℕ → Bool
is_out keep params value n = member n keep || (free n value && not (is_among params n))

-- a free variable of the value that is no parameter has no number that is shown
not-shown : (keep : List ℕ) (params ys : List Var) (value : Form) (sorts : List ℕ) → AreParameters (is_out keep params value) sorts ys
    → (n : ℕ) → free n value ≡ true → is_among params n ≡ false → is_among ys n ≡ false
not-shown keep params ys value sorts h n o p =
    bool_cases (λ b. b ≡ false) (is_among ys n)
    (λ q. absurd (both_ways (free n value && not (is_among params n))
    (or_none_second (member n keep) (free n value && not (is_among params n)) (parameters-unused (is_out keep params value) sorts ys h n q))
    (and_from (free n value) (not (is_among params n)) o (ap not p))))
    (λ q. refl)

same-below : (keep : List ℕ) (params ys : List Var) (value : Form) → AreDistinct params → AreParameters (is_out keep params value) (map (λ x. x.sort) params) ys
    → (e : Sorting) → sorted (below e params) value ≡ true → same_in (paired [] params ys) [] value (sub (depth value) (by_vars params ys) value) ≡ true
same-below keep params ys value d h e o =
    same-by_vars (depth value) params ys value (omega arith) (same-sorts (is_out keep params value) params ys h) d
    (parameters-distinct (is_out keep params value) (map (λ x. x.sort) params) ys h) (not-shown keep params ys value (map (λ x. x.sort) params) h) e o

pub shown-same : (keep : List ℕ) (params : List Var) (value : Form) (ys : List Var) (w : Form) → AreDistinct params → IsShown keep params value ys w
    → (e : Sorting) → sorted (below e params) value ≡ true → same (for_all ys w) (for_all params value) ≡ true
shown-same keep params value ys w d h e o =
    let vs : Pairs = paired [] params ys in
    let f : Form = sub (depth value) (by_vars params ys) value in
    let tidier : same_in (twins (rights vs)) [] f w ≡ true =
    same_in-turned (rights vs) [] f w ∙ ap (λ w. same_in (twins (rights vs)) [] w f) h.shown
    ∙ same-tidied (twins (rights vs)) [] keep (λ n. n) f (λ m o. twins-diagonal (rights vs) m) eqb-self in
    let inner : same_in vs [] value w ≡ true =
    same_in-chained vs (twins (rights vs)) vs [] [] [] value f w (fit-last vs) (fit-last []) (same-below keep params ys value d h.numbers e o) tidier in
    same-turned (for_all ys w) (for_all params value)
    ∙ same-for_all [] [] params ys value w (same-sorts (is_out keep params value) params ys h.numbers) inner

pub shown-distinct : (keep : List ℕ) (params : List Var) (value : Form) (ys : List Var) (w : Form) → IsShown keep params value ys w
    → AreDistinct ys × ((n : ℕ) → is_among ys n ≡ true → member n keep ≡ false)
shown-distinct keep params value ys w h = (
  parameters-distinct (is_out keep params value) (map (λ x. x.sort) params) ys h.numbers,
  λ n p. or_none_first (member n keep) (free n value && not (is_among params n)) (parameters-unused (is_out keep params value) (map (λ x. x.sort) params) ys h.numbers n p),
)

pub shown-sorted : (keep : List ℕ) (params : List Var) (value : Form) (ys : List Var) (w : Form) → AreDistinct params → IsShown keep params value ys w
    → (e : Sorting) → sorted (below e params) value ≡ true → sorted (below e ys) w ≡ true
shown-sorted keep params value ys w d h e o =
    sym (sorted-for_all e ys w)
    ∙ sorted-same (for_all ys w) (for_all params value) (shown-same keep params value ys w d h e o) e
    ∙ sorted-for_all e params value
    ∙ o

-- ---- one way

pub one-shown : (keep : List ℕ) (params : List Var) (value : Form) (xs ys : List Var) (f g : Form) → IsShown keep params value xs f → IsShown keep params value ys g → (xs ≡ ys) × (f ≡ g)
one-shown keep params value xs ys f g h k =
    let numbers : xs ≡ ys = one-parameters (is_out keep params value) (map (λ x. x.sort) params) xs ys h.numbers k.numbers in
    (numbers, h.shown ∙ ap (λ zs. tidy keep (sub (depth value) (by_vars params zs) value)) numbers ∙ sym k.shown)
