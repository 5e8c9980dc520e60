-- The least numbers that fail a test, and numbers to keep out.
use Rattle.std.specs.Prelude.{ℕ, ◌≡◌, ◌<◌, ◌||◌, Bool, false, List, length, slice_index}
use Rattle.soqe_number.specs.Unused.{member}
use Rattle.soqe_number.specs.declared.unkept.Unkept.{Unkept}
use Rattle.soqe_number.specs.Marks.{marked, IsLeastWithout}

-- the number is one of the first k of the list
abbrev pub IsBefore : List ℕ → ℕ → ℕ → Type 0
IsBefore ns k n = (i : ℕ) × (i < k) × (slice_index ns i ≡ n)

-- the list has the least numbers that fail the test, in order
pub record AreFirst (p : ℕ → Bool) (ns : List ℕ) : Type 0 where
  pub fail : (i : ℕ) → i < length ns → p (slice_index ns i) ≡ false
  pub first : (i n : ℕ) → i < length ns → n < slice_index ns i → p n ≡ false → IsBefore ns i n

-- the numbers of the list are kept out, and the least others are known
pub record Keeps (keep : List ℕ) (u : Unkept) : Type 0 where
  pub marks : marked u.kept ≡ (λ n. member n keep)
  pub others : AreFirst (marked u.kept) u.others

-- the number is the least that is neither kept out nor in the list
abbrev pub IsLeastBeside : Unkept → List ℕ → ℕ → Type 0
IsLeastBeside u ns n = AreFirst (marked u.kept) u.others → IsLeastWithout (λ m. marked u.kept m || member m ns) n
