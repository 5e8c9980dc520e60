use Rattle.std.specs.Prelude.{ℕ, List}

-- what contracts see of a `MemSource`: the bytes still to come, the most bytes at a call, the calls at which it fails,
-- and how many calls and faults there were
pub record SourceScript : Type 0 where
  pub left : List ℕ
  pub per_call : ℕ
  pub fail_at : List ℕ
  pub calls : ℕ
  pub faults : ℕ
