use Rattle.std.proofs.Common.{◌≡◌, ℕ, ◌+◌, ◌<◌, length, false, take, get_or}
use Rattle.soqe_number.specs.Unused.{member}
use Rattle.soqe_number.proofs.unused.mark.Given as goal

abbrev pub invariant-loop-num : goal.invariant-loop-num
invariant-loop-num l = record {
  same_length : length l.marks ≡ length l.fn.marks;
  marked : (i : ℕ) → i < length l.marks → get_or l.marks i false ≡ member (l.base + i) (take l.num-index l.used);
}
