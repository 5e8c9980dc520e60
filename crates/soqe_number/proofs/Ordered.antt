-- Sets of numbers in order: whether they have a number, and which is the least.
use Rattle.std.proofs.Common.{◌≡◌, ℕ, ◌≤◌, false, List, sym, ap, arith, ⊎_elim, Greater}
use Rattle.std.specs.List.{list_any}
use Rattle.std.specs.Ordering.{nat_cmp, is_gt}
use Rattle.std.specs.BTreeMap.{is_at}
use Rattle.std.specs.Cmp.{nat_cmp_is, unsigned_tied}
use Rattle.std.proofs.lemmas.Bool.{cases_lt, both_ways}
use Rattle.soqe_number.specs.Unused.{member}

pub contains-member : (n : ℕ) (ks : List ℕ) → list_any (is_at (nat_cmp n)) ks ≡ member n ks
contains-member n ks = λ i. list_any (λ k. unsigned_tied n k i) ks

-- a number that no other one is below is at most as large as each
pub not_above : (n m : ℕ) → is_gt (nat_cmp n m) ≡ false → n ≤ m
not_above n m h = ⊎_elim (λ lt. absurd (both_ways (is_gt (nat_cmp n m)) h (ap is_gt (sym (nat_cmp_is n m Greater lt))))) (λ le. omega arith) (cases_lt m n)
