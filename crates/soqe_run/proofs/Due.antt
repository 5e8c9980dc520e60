-- What is due after each way of reading.
use Rattle.std.proofs.Common.{◌≡◌, ℕ, ◌<◌, ◌+◌, List, length, arith, inl, inr}
use Rattle.std.specs.Prelude.{Option, Some, IsTrue}
use Rattle.std.specs.Io.KnownBytes.{Consumes, IsAtEnd}
use Rattle.soqe_run.specs.Plan.{the_plan}
use Rattle.soqe_run.specs.Reply.{is_reply}
use Rattle.soqe_run.specs.Answer.{planned, Replies, too_long, by_method, limit_of}
use Rattle.soqe_run.specs.Outcome.{IsDue, IsDueFor, IsReadFor}
use Rattle.soqe_run.specs.declared.plan.Plan.{Plan}
use Rattle.soqe_run.specs.declared.status.Status.{Status}
use Rattle.soqe_run.specs.declared.status.Status.TheVariants.{TooLong}

-- whatever an engine answers, the source was to be read to its end
read_to_end : (plan : Plan) (status : Status) (bytes : List ℕ) (after : Option (List ℕ)) → IsTrue (is_reply status) → IsAtEnd after → IsReadFor plan status bytes after
read_to_end plan TooLong bytes after reply end = cc
read_to_end plan status bytes after reply end = end

-- a source that was read to its end, or to one byte past the limit, was read far enough for the reply
read_enough : (plan : Plan) (status : Status) (text bytes : List ℕ) (after : Option (List ℕ))
    → (length bytes < limit_of plan + 1 → IsAtEnd after) → Replies plan bytes status text → IsReadFor plan status bytes after
read_enough plan status text bytes after end (too_long long is) = rw is.status_is long
read_enough plan status text bytes after end (by_method wanted is short reply h) = read_to_end plan status bytes after reply (end (omega arith))

-- the reply to bytes that were read up to one byte past the limit is due
pub due_read : (plan : Plan) (before after : Option (List ℕ)) (old_count new_count : ℕ) (status : Status) (text bytes : List ℕ)
    → Consumes before after bytes → (length bytes < limit_of plan + 1 → IsAtEnd after) → new_count ≡ old_count
    → Replies plan bytes status text → IsDueFor plan before after old_count new_count status text
due_read plan before after old_count new_count status text bytes lost end quiet replies = inl record {
  read = bytes;
  lost = lost;
  replies = replies;
  enough = read_enough plan status text bytes after end replies;
  quiet = quiet;
}

-- what is due for the plan of the words is due for the words
pub due_planned : (words : List (List ℕ)) (before after : Option (List ℕ)) (old_count new_count : ℕ) (status : Status) (text : List ℕ) (plan : Plan)
    → the_plan words ≡ Some plan → IsDueFor plan before after old_count new_count status text → IsDue words before after old_count new_count status text
due_planned words before after old_count new_count status text plan is (inl reply) = inl record {
  read = reply.read;
  lost = reply.lost;
  answer = planned plan is reply.replies;
  enough = rw is reply.enough;
  quiet = reply.quiet;
}
due_planned words before after old_count new_count status text plan is (inr fault) = inr fault
