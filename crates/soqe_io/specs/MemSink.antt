use Rattle.std.specs.Prelude.{ℕ, List}

-- what contracts see of a `MemSink`: the bytes taken, how many it can take, the most bytes at a call, the calls at which
-- it fails, and how many calls and faults there were
pub record SinkScript : Type 0 where
  pub taken : List ℕ
  pub capacity : ℕ
  pub per_call : ℕ
  pub fail_at : List ℕ
  pub calls : ℕ
  pub faults : ℕ
