-- What a command did to its source, and the reply that is due.
use Rattle.std.specs.Prelude.{ℕ, ◌≤◌, List, Option, Some, Result, IfOk}
use Rattle.std.specs.declared.alloc.AllocError.{AllocError}
use Rattle.soqe_io.specs.Read.{IsReadWithin}
use Rattle.soqe_run.specs.Outcome.{IsDueFor, most_read}
use Rattle.soqe_run.specs.declared.plan.Plan.{Plan}
use Rattle.soqe_run.specs.declared.reply.Reply.{Reply}

-- the reply is due for the plan, no more was read than the plan allows, and the source's count of faults has not fallen
pub record Works {S : Type 0} (left : S → Option (List ℕ)) (faults : S → ℕ) (plan : Plan) (old new : S) (result : Result Reply AllocError) : Type 0 where
  pub due : IfOk result (λ reply. IsDueFor plan (left old) (left new) (faults old) (faults new) reply.status reply.text.items)
  pub within : IsReadWithin (most_read (Some plan)) (left old) (left new)
  pub later : faults old ≤ faults new
