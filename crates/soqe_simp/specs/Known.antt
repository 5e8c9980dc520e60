-- What is known of the formula behind a chain of quantifiers, while they are put back from the innermost on.
use Rattle.std.specs.Prelude.{ℕ, suc, ◌≡◌, ◌<◌, ◌≤◌, true, false, List, slice_get, Some, None}
use Rattle.soqe_number.specs.Updates.{changed}
use Rattle.soqe_number.specs.Unused.{member}
use Rattle.soqe_term.specs.declared.term.Var.{Var}
use Rattle.soqe_number.specs.Counts.{counted}
use Rattle.soqe_number.specs.Marks.{marked}
use Rattle.soqe_form.specs.Free.{free as free_in}
use Rattle.soqe_form.specs.declared.form.Form.{Form}
use Rattle.soqe_form.specs.declared.quantifiers.Quantifier.{Quantifier}
use Rattle.soqe_simp.specs.declared.known.Known.{Known}
use Rattle.soqe_form.specs.Quantifiers.{quantified}
use Rattle.soqe_simp.specs.Conjuncts.{solved, below_alls, solved_not, solved_imp}
use Rattle.soqe_simp.specs.Sides.{has_side, has_condition}
use Rattle.soqe_simp.specs.Simplified.{simplify}

-- the innermost of k + 1 quantifiers binds n: its place is k + 1 at least, and no other number has this one
pub record IsPlaceOf (place : ℕ → ℕ) (k n : ℕ) : Type 0 where
  pub least : k < place n
  pub only : (m : ℕ) → place m ≡ suc k → m ≡ n

-- the places of the first `count` quantifiers of a chain, the outermost first: of two with one number that of the inner one counts
pub record ArePlaces (count : ℕ) (chain : List Quantifier) (place : ℕ → ℕ) : Type 0 where
  pub most : (m : ℕ) → place m ≤ count
  pub each : (k : ℕ) (q : Quantifier) → k < count → slice_get chain k ≡ Some q → IsPlaceOf place k q.variable.num

-- the marks are those of the formula
pub record Learns (place : ℕ → ℕ) (known : Known) (f : Form) : Type 0 where
  pub free : marked known.free ≡ (λ n. free_in n f)
  pub sides : marked known.sides ≡ (λ n. has_side place n f)
  pub conditions : marked known.conditions ≡ (λ n. has_condition place n f)

-- the quantifier was put in front: its variable is free no more, and the marks for its kind stay
pub record Passes (q : Quantifier) (old new : Known) : Type 0 where
  pub places : counted new.places ≡ counted old.places
  pub free : marked new.free ≡ changed (marked old.free) q.variable.num false
  pub sides : q.universal ≡ false → marked new.sides ≡ marked old.sides
  pub conditions : q.universal ≡ true → marked new.conditions ≡ marked old.conditions

-- ys has all that are free in f and whose quantifiers stand further in than that of n
abbrev pub HasWithin : (ℕ → ℕ) → ℕ → Form → List ℕ → Type 0
HasWithin place n f ys = (m : ℕ) → free_in m f ≡ true → place n < place m → member m ys ≡ true

-- f stands behind k quantifiers: what is free in f has one of their places or none, and no conjunct says what a variable
-- without a mark is, where all that stands further in was passed
pub record Knows (k : ℕ) (known : Known) (f : Form) : Type 0 where
  pub free : marked known.free ≡ (λ n. free_in n f)
  pub placed : (n : ℕ) → free_in n f ≡ true → counted known.places n ≤ k
  pub sides : (x : Var) (ys : List ℕ) → marked known.sides x.num ≡ false → HasWithin (counted known.places) x.num f ys → solved ys x f ≡ None
  pub not_conditions : (x : Var) (ys : List ℕ) → marked known.conditions x.num ≡ false → HasWithin (counted known.places) x.num f ys → below_alls (solved_not x) ys f ≡ None
  pub imp_conditions : (x : Var) (ys : List ℕ) → marked known.conditions x.num ≡ false → HasWithin (counted known.places) x.num f ys → below_alls (solved_imp x) ys f ≡ None

-- the innermost quantifier q was put in front of f and made simple to g, and what was known of f is known of g
pub record PutsBack (q : Quantifier) (f : Form) (old new : Known) (g : Form) : Type 0 where
  pub places : counted new.places ≡ counted old.places
  pub knows : (k : ℕ) → IsPlaceOf (counted old.places) k q.variable.num → Knows (suc k) old f → Knows k new g
  pub simple : (k : ℕ) → IsPlaceOf (counted old.places) k q.variable.num → Knows (suc k) old f → g ≡ simplify (quantified q f)
