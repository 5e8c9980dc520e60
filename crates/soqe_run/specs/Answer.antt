-- The answer to words and bytes: a status and a text.
use Rattle.std.specs.Prelude.{◌≡◌, ℕ, IsTrue, ◌<◌, ◌≤◌, List, length, None, Some, codes}
use Rattle.soqe_run.specs.Plan.{the_plan}
use Rattle.soqe_run.specs.Reply.{IsFixed, is_reply, line}
use Rattle.soqe_run.specs.Responds.{Responds}
use Rattle.soqe_run.specs.declared.plan.Plan.{Plan}
use Rattle.soqe_run.specs.declared.plan.Plan.TheVariants.{Elim}
use Rattle.soqe_flow.specs.declared.derivation.Wanted.{Wanted}
use Rattle.soqe_run.specs.declared.status.Status.{Status}
use Rattle.soqe_run.specs.declared.status.Status.TheVariants.{Usage, TooLong}

-- the most bytes of a problem text
abbrev pub max_bytes : ℕ
max_bytes = 1048576

-- the most bytes of a text that a plan takes
abbrev pub limit_of : Plan → ℕ
limit_of (Elim wanted) = max_bytes

-- the reply to bytes, once the words are taken
pub data Replies (plan : Plan) (bytes : List ℕ) (status : Status) (text : List ℕ) : Type 0 where
  too_long : limit_of plan < length bytes → IsFixed TooLong (line (codes "too long")) status text → Replies plan bytes status text
  by_method : (wanted : Wanted) → plan ≡ Elim wanted → length bytes ≤ limit_of plan → IsTrue (is_reply status) → Responds wanted bytes status text
      → Replies plan bytes status text

-- the answer to words and bytes
pub data Answer (words : List (List ℕ)) (bytes : List ℕ) (status : Status) (text : List ℕ) : Type 0 where
  usage : the_plan words ≡ None → IsFixed Usage (line (codes "usage: soqe COMMAND [OPTIONS]")) status text → Answer words bytes status text
  planned : (plan : Plan) → the_plan words ≡ Some plan → Replies plan bytes status text → Answer words bytes status text
