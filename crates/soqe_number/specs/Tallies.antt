-- Tallies: what they count, and which numbers they know to be free of it.
use Rattle.std.specs.Prelude.{ℕ, ◌≡◌, ◌<◌, ◌+◌, ◌-◌, true, false, ◌||◌, not, eqb, List, length, slice_index}
use Rattle.soqe_number.specs.Unused.{member}
use Rattle.soqe_number.specs.declared.unkept.Unkept.{Unkept}
use Rattle.soqe_number.specs.declared.tally.Tally.{Tally}
use Rattle.soqe_number.specs.Marks.{marked, IsLeastWithout}
use Rattle.soqe_number.specs.Unkept.{AreFirst, IsLeastBeside}
use Rattle.soqe_number.specs.Counts.{counted, times}

-- Of the numbers below the bound, those that are neither kept out nor counted are the freed ones. The bound lies behind the
-- unkept numbers in front of the next one.
pub record IsTally (u : Unkept) (t : Tally) : Type 0 where
  pub passed : (n : ℕ) → n < t.bound → marked u.kept n ≡ false → counted t.counts n ≡ 0 → member n t.freed ≡ true
  pub freed : (n : ℕ) → member n t.freed ≡ true → (n < t.bound) × (marked u.kept n ≡ false) × (counted t.counts n ≡ 0)
  pub behind : (j : ℕ) → j < t.next → slice_index u.others j < t.bound

-- a tally of no numbers
pub record IsEmpty (t : Tally) : Type 0 where
  pub shape : (u : Unkept) → IsTally u t
  pub counts : (n : ℕ) → counted t.counts n ≡ 0
  pub known : t.is_known ≡ false

-- each number was counted as often more as p says
pub record Gains (p : ℕ → ℕ) (old new : Tally) : Type 0 where
  pub shape : (u : Unkept) → IsTally u old → IsTally u new
  pub counts : (n : ℕ) → counted new.counts n ≡ p n + counted old.counts n
  pub known : new.is_known ≡ old.is_known

-- each number was counted as often less as p says
pub record Loses (u : Unkept) (p : ℕ → ℕ) (old new : Tally) : Type 0 where
  pub shape : IsTally u old → IsTally u new
  pub counts : (n : ℕ) → counted new.counts n ≡ counted old.counts n - p n
  pub known : new.is_known ≡ old.is_known

-- the bound may have moved on, and the counts stayed
pub record Passes (u : Unkept) (old new : Tally) : Type 0 where
  pub shape : AreFirst (marked u.kept) u.others → IsTally u old → IsTally u new
  pub counts : new.counts ≡ old.counts
  pub freed : new.freed ≡ old.freed
  pub known : new.is_known ≡ old.is_known

-- the next unkept number is not counted
pub record IsNext (u : Unkept) (t : Tally) (n : ℕ) : Type 0 where
  pub within : t.next < length u.others
  pub number : slice_index u.others t.next ≡ n
  pub free : counted t.counts n ≡ 0

-- the number is the least that is neither kept out nor counted
abbrev pub IsLeastBy : Unkept → Tally → ℕ → Type 0
IsLeastBy u t n = AreFirst (marked u.kept) u.others → IsTally u t → IsLeastWithout (λ m. marked u.kept m || not (eqb (counted t.counts m) 0)) n

-- the tally counts the numbers of the list
pub record IsRight (u : Unkept) (ns : List ℕ) (t : Tally) : Type 0 where
  pub shape : IsTally u t
  pub counts : (n : ℕ) → counted t.counts n ≡ times n ns

-- if it is known
abbrev pub IsRightIfKnown : Unkept → List ℕ → Tally → Type 0
IsRightIfKnown u ns t = t.is_known ≡ true → IsRight u ns t

-- whatever is kept
abbrev pub IsRightAlways : List ℕ → Tally → Type 0
IsRightAlways ns t = (u : Unkept) → IsRight u ns t

-- the tally now counts the numbers of the list
pub record Knows (ns : List ℕ) (old new : Tally) : Type 0 where
  pub is : (u : Unkept) → IsRightIfKnown u ns old → IsRight u ns new

-- of the numbers ms, those of the list were taken away, and ls are left
pub record Leaves (u : Unkept) (ns : List ℕ) (old new : Tally) : Type 0 where
  pub is : (ms ls : List ℕ) → ((n : ℕ) → times n ms ≡ times n ns + times n ls) → IsRightIfKnown u ms old → IsRightIfKnown u ls new

-- where the tally counts the numbers of the list, if it is known, the number is the least beside them, and the tally counts them still
pub record Finds (u : Unkept) (ns : List ℕ) (old new : Tally) (n : ℕ) : Type 0 where
  pub least : IsRightIfKnown u ns old → IsLeastBeside u ns n
  pub right : AreFirst (marked u.kept) u.others → IsRightIfKnown u ns old → IsRightIfKnown u ns new
