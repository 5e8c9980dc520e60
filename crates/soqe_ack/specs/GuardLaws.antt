-- What a guard says.
use Rattle.std.specs.Prelude.{ℕ, ◌↔◌, ◌⊎◌, ◌≡◌, Bool, true, false, not, List, [], ◌∷◌, map, Some}
use Rattle.soqe_term.specs.declared.term.Var.{Var}
use Rattle.soqe_term.specs.World.{World}
use Rattle.soqe_term.specs.Occurs.{AgreeOn}
use Rattle.soqe_number.specs.Ranges.{InRange}
use Rattle.soqe_term.specs.Sorting.{Sorting}
use Rattle.soqe_term.specs.Fits.{Fits}
use Rattle.soqe_form.specs.declared.form.Pred.{Pred}
use Rattle.soqe_form.specs.declared.form.Form.{Form}
use Rattle.soqe_form.specs.FreePreds.{has_free}
use Rattle.soqe_form.specs.FreeVars.{is_among}
use Rattle.soqe_form.specs.Mentions.{mentions}
use Rattle.soqe_form.specs.Sorted.{sorted, pred_sorts}
use Rattle.soqe_form.specs.Truth.{truth, holds}
use Rattle.soqe_ack.specs.Guards.{IsGuard}

-- the world with other elements of the variables
abbrev pub at : World → (ℕ → ℕ) → World
at w d = record w { element = d }

-- the elements agree off the parameters
abbrev pub AgreeOff : List Var → (ℕ → ℕ) → (ℕ → ℕ) → Type 0
AgreeOff xs d e = AgreeOn (λ n. not (is_among xs n)) d e

-- the elements of the parameters
abbrev pub elements_of : (ℕ → ℕ) → List Var → List ℕ
elements_of d xs = map (λ x. d x.num) xs

-- the sorts of the parameters
abbrev pub sorts_of : List Var → List ℕ
sorts_of xs = map (λ x. x.sort) xs

-- no parameter stands in f, bound or free
abbrev pub StandNowhere : List Var → Form → Type 0
StandNowhere xs f = (n : ℕ) → is_among xs n ≡ true → mentions n f ≡ false

-- no two parameters have one number
abbrev pub AreDistinct : List Var → Type 0
AreDistinct [] = Unit {0}
AreDistinct (x ∷ xs) = (is_among xs x.num ≡ false) × AreDistinct xs

-- the literal of the sign is true at all parameters in range at which c is
abbrev pub CoversAt : World → Bool → Pred → List Var → Form → Type 0
CoversAt w s q xs c = (d : ℕ → ℕ) → AgreeOff xs d w.element → InRange (map w.size (sorts_of xs)) (elements_of d xs)
    → truth (at w d) c ≡ true → holds w q (elements_of d xs) ≡ s

-- a guard is true exactly where its rest is and, for all parameters at which its condition is, the literal of the sign is
abbrev pub GuardSaysParts : Type 0
GuardSaysParts = (s : Bool) (q : Pred) (xs : List Var) (f c r : Form) → IsGuard s q xs f c r → AreDistinct xs → StandNowhere xs f
    → (e : Sorting) → sorted e f ≡ true → pred_sorts e q ≡ Some (sorts_of xs)
    → (w : World) → Fits w e → (truth w f ≡ true) ↔ ((truth w r ≡ true) × CoversAt w s q xs c)

-- neither the condition nor the rest has the predicate
abbrev pub PartsLackPredicate : Type 0
PartsLackPredicate = (s : Bool) (q : Pred) (xs : List Var) (f c r : Form) → IsGuard s q xs f c r
    → (has_free q c ≡ false) × (has_free q r ≡ false)

-- a formula has at most one condition and one rest
abbrev pub PartsAreUnique : Type 0
PartsAreUnique = (s : Bool) (q : Pred) (xs : List Var) (f c r d t : Form) → IsGuard s q xs f c r → IsGuard s q xs f d t → (c ≡ d) × (r ≡ t)

-- the formula is a guard, with this condition and this rest
pub record HasParts (s : Bool) (q : Pred) (xs : List Var) (f : Form) : Type 0 where
  pub condition : Form
  pub rest : Form
  pub is : IsGuard s q xs f condition rest

-- every formula is a guard or is none
abbrev pub GuardsAreDecided : Type 0
GuardsAreDecided = (s : Bool) (q : Pred) (xs : List Var) (f : Form) → HasParts s q xs f ⊎ ((c r : Form) → IsGuard s q xs f c r → ⊥)
