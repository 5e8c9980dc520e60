-- How a run ends.
use Rattle.std.specs.Prelude.{◌≡◌, ◌⊎◌, ℕ, ◌<◌, ◌+◌, Bool, true, false, List, [], length, Option, None, Some, codes}
use Rattle.std.specs.Io.KnownBytes.{Appends, Consumes, Keeps, IsAtEnd}
use Rattle.soqe_io.specs.Faults.{Rose}
use Rattle.soqe_io.specs.Write.{IsCutShort}
use Rattle.soqe_run.specs.Answer.{Answer, Replies, limit_of}
use Rattle.soqe_run.specs.Plan.{the_plan}
use Rattle.soqe_run.specs.Reply.{IsFixed, line}
use Rattle.soqe_run.specs.declared.plan.Plan.{Plan}
use Rattle.soqe_run.specs.declared.status.Status.{Status}
use Rattle.soqe_run.specs.declared.status.Status.TheVariants.{TooLong, ReadFault, WriteFault, Memory}

-- how far the source was read for a reply: past the limit for a text that is too long, and else to its end
abbrev pub IsReadFor : Plan → Status → List ℕ → Option (List ℕ) → Type 0
IsReadFor plan TooLong read left = limit_of plan < length read
IsReadFor plan status read left = IsAtEnd left

-- how far the source was read for an answer: not at all where the words ask for nothing
abbrev pub IsReadForAnswer : Option Plan → Status → List ℕ → Option (List ℕ) → Type 0
IsReadForAnswer None status read left = read ≡ []
IsReadForAnswer (Some plan) status read left = IsReadFor plan status read left

-- whether a status says that no read failed: `WriteFault` and `Memory` may stand in the place of `ReadFault`
abbrev pub says_no_read_failed : Status → Bool
says_no_read_failed ReadFault = false
says_no_read_failed WriteFault = false
says_no_read_failed Memory = false
says_no_read_failed status = true

-- a status and a text that are the reply of a plan to the bytes that the source lost, with no fault counted
pub record IsReply (plan : Plan) (before after : Option (List ℕ)) (old_count new_count : ℕ) (status : Status) (text : List ℕ) : Type 0 where
  pub read : List ℕ
  pub lost : Consumes before after read
  pub replies : Replies plan read status text
  pub enough : IsReadFor plan status read after
  pub quiet : new_count ≡ old_count

-- a status and a text that are the answer to the words and the bytes that the source lost, with no fault counted
pub record IsAnswered (words : List (List ℕ)) (before after : Option (List ℕ)) (old_count new_count : ℕ) (status : Status) (text : List ℕ) : Type 0 where
  pub read : List ℕ
  pub lost : Consumes before after read
  pub answer : Answer words read status text
  pub enough : IsReadForAnswer (the_plan words) status read after
  pub quiet : new_count ≡ old_count

-- a status and a text that say that a read failed, where the source's count of faults rose
pub record IsReadFault (old_count new_count : ℕ) (status : Status) (text : List ℕ) : Type 0 where
  pub fixed : IsFixed ReadFault (line (codes "read fault")) status text
  pub cause : Rose old_count new_count

-- what is due for a plan, once the source has been read
abbrev pub IsDueFor : Plan → Option (List ℕ) → Option (List ℕ) → ℕ → ℕ → Status → List ℕ → Type 0
IsDueFor plan before after old_count new_count status text = IsReply plan before after old_count new_count status text ⊎ IsReadFault old_count new_count status text

-- what is due for the words, once the source has been read
abbrev pub IsDue : List (List ℕ) → Option (List ℕ) → Option (List ℕ) → ℕ → ℕ → Status → List ℕ → Type 0
IsDue words before after old_count new_count status text = IsAnswered words before after old_count new_count status text ⊎ IsReadFault old_count new_count status text

-- the text that is due was written whole: the first way with an answer, the second with a failed read
pub record IsWritten (due : Status → List ℕ → Type 0) (before after : Option (List ℕ)) (old_count new_count : ℕ) (status : Status) : Type 0 where
  pub text : List ℕ
  pub is_due : due status text
  pub taken : Appends before after text
  pub quiet : new_count ≡ old_count

-- a write failed, and the sink took a proper prefix of the text that is due: the third way
pub record IsWriteFault (due : Status → List ℕ → Type 0) (before after : Option (List ℕ)) (old_count new_count : ℕ) (status : Status) : Type 0 where
  pub status_is : status ≡ WriteFault
  pub meant : Status
  pub text : List ℕ
  pub is_due : due meant text
  pub part : IsCutShort text before after
  pub cause : Rose old_count new_count

-- memory was wanting, and nothing was written: the fourth way
pub record IsWanting (before after : Option (List ℕ)) (old_count new_count : ℕ) (status : Status) : Type 0 where
  pub status_is : status ≡ Memory
  pub taken : Keeps before after
  pub quiet : new_count ≡ old_count

-- the four ways in which a run ends
abbrev pub EndsAs : (Status → List ℕ → Type 0) → Option (List ℕ) → Option (List ℕ) → ℕ → ℕ → Status → Type 0
EndsAs due before after old_count new_count status =
    IsWritten due before after old_count new_count status ⊎ IsWriteFault due before after old_count new_count status ⊎ IsWanting before after old_count new_count status

-- a text was written whole and its own status answered, or a write failed after a proper prefix of it
abbrev pub IsDelivered : Status → List ℕ → Option (List ℕ) → Option (List ℕ) → ℕ → ℕ → Status → Type 0
IsDelivered due text before after old_count new_count status =
    ((status ≡ due) × Appends before after text × (new_count ≡ old_count)) ⊎ ((status ≡ WriteFault) × IsCutShort text before after × Rose old_count new_count)

-- the most bytes that are read, whatever is answered
abbrev pub most_read : Option Plan → ℕ
most_read None = 0
most_read (Some plan) = limit_of plan + 1
