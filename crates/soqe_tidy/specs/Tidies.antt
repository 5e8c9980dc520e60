-- What the walk that makes a formula tidy gives.
use Rattle.std.specs.Prelude.{ℕ, ◌≡◌, Bool, true, false, List, ◌++◌}
use Rattle.soqe_term.specs.declared.term.Var.{Var}
use Rattle.soqe_number.specs.Updates.{changed}
use Rattle.soqe_term.specs.Renumber.{numbered, renames}
use Rattle.soqe_form.specs.declared.form.Form.{Form}
use Rattle.soqe_number.specs.declared.unkept.Unkept.{Unkept}
use Rattle.soqe_number.specs.declared.tally.Tally.{Tally}
use Rattle.soqe_form.specs.FreeVars.{others, free_occurrences}
use Rattle.soqe_tidy.specs.Numbers.{new_numbers}
use Rattle.soqe_number.specs.Unkept.{Keeps}
use Rattle.soqe_number.specs.Tallies.{IsRightIfKnown}
use Rattle.soqe_tidy.specs.Tidy.{tidy_number, tidied}
use Rattle.soqe_uses.specs.Uses.{uses, top, under, below, AreOnTop}

-- The formula that was made is the tidied f, for the kept numbers, where the uses of its binders are on top and the tally is right,
-- if it is known. The numbers of variables are given as before, and the uses of f are gone.
pub record Tidies (u : Unkept) (r s : List (ℕ × ℕ)) (tally : Tally) (old new : List ℕ) (f made : Form) : Type 0 where
  pub is : (keep : List ℕ) → Keeps keep u → AreOnTop f old → IsRightIfKnown u (new_numbers (renames r) (free_occurrences f)) tally
      → made ≡ tidied keep (renames r) f
  pub by : renames s ≡ renames r
  pub rest : new ≡ below f old

-- the same for a part of a node that goes on with the tally, or is gone through without it; then a right tally stays right
pub record TidiesPart (u : Unkept) (goes_on : Bool) (r s : List (ℕ × ℕ)) (tally later : Tally) (old new : List ℕ) (f made : Form) : Type 0 where
  pub is : (keep : List ℕ) → Keeps keep u → AreOnTop f old
      → (goes_on ≡ true → IsRightIfKnown u (new_numbers (renames r) (free_occurrences f)) tally) → made ≡ tidied keep (renames r) f
  pub by : renames s ≡ renames r
  pub rest : new ≡ below f old
  pub right : goes_on ≡ false → (ns : List ℕ) → IsRightIfKnown u ns tally → IsRightIfKnown u ns later

-- the same for a binder of x in front of f, which become z and the formula that was made
pub record TidiesBelow (u : Unkept) (r s : List (ℕ × ℕ)) (tally : Tally) (old new : List ℕ) (x : Var) (f : Form) (z : Var) (made : Form) : Type 0 where
  pub binder : (keep : List ℕ) → Keeps keep u → IsRightIfKnown u (new_numbers (renames r) (others x.num (free_occurrences f))) tally
      → z ≡ numbered x (tidy_number keep (renames r) x.num f)
  pub body : (keep : List ℕ) → Keeps keep u → top 0 old ≡ uses x.num f → AreOnTop f (under old)
      → IsRightIfKnown u (new_numbers (renames r) (others x.num (free_occurrences f))) tally
      → made ≡ tidied keep (changed (renames r) x.num (tidy_number keep (renames r) x.num f)) f
  pub by : renames s ≡ renames r
  pub rest : new ≡ below f (under old)

-- where the tally of both parts of a node is right, if it is known, it becomes that of the larger part
pub record IsOfLarger (u : Unkept) (r : ℕ → ℕ) (f g : Form) (left_is_smaller : Bool) (old new : Tally) : Type 0 where
  pub left : left_is_smaller ≡ false → IsRightIfKnown u (new_numbers r (free_occurrences f ++ free_occurrences g)) old → IsRightIfKnown u (new_numbers r (free_occurrences f)) new
  pub right : left_is_smaller ≡ true → IsRightIfKnown u (new_numbers r (free_occurrences f ++ free_occurrences g)) old → IsRightIfKnown u (new_numbers r (free_occurrences g)) new
