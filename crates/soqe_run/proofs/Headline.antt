-- Where the status is `Done`, the text that was written whole is the document of a problem that is solved.
use Rattle.std.proofs.Common.{◌≡◌, ◌∙◌, sym, ℕ, List, inl, inr}
use Rattle.std.specs.Prelude.{Option, Some}
use Rattle.std.specs.Io.KnownBytes.{Appends, Consumes, IsAtEnd}
use Rattle.soqe_run.specs.Plan.{the_plan}
use Rattle.soqe_run.specs.Answer.{Answer, usage, planned, Replies, too_long, by_method}
use Rattle.soqe_run.specs.Responds.{Responds, syntax_fault, names_fault, sorts_fault, done, stopped, status_of}
use Rattle.soqe_run.specs.Outcome.{IsDue, IsDelivered, IsReadForAnswer}
use Rattle.soqe_run.specs.Headline.{IsSolved}
use Rattle.soqe_flow.specs.declared.derivation.Wanted.{Wanted}
use Rattle.soqe_deriv.specs.declared.document.Stop.{Stop}
use Rattle.soqe_deriv.specs.declared.document.Stop.TheVariants as stop
use Rattle.soqe_run.specs.declared.plan.Plan.{Plan}
use Rattle.soqe_run.specs.declared.status.Status.{Status}
use Rattle.soqe_run.specs.declared.status.Status.TheVariants.{Done, Usage, Syntax, Names, Sorts, TooLong, ReadFault, WriteFault}

-- no stop is `Done`
stop_not_done : {A : Type 0} (s : Stop) → status_of s ≡ Done → A
stop_not_done (stop.Mixed i j) e = cc
stop_not_done (stop.NotReached n) e = cc

-- what an engine answers with `Done` is a derivation with a result
solved_response : (wanted : Wanted) (left_before left_after taken_before taken_after : Option (List ℕ)) (read text : List ℕ) (status : Status)
    → status ≡ Done → Consumes left_before left_after read → IsAtEnd left_after → Appends taken_before taken_after text
    → Responds wanted read status text → IsSolved left_before left_after taken_before taken_after
solved_response wanted lb la tb ta read text status is told end wrote (syntax_fault at fault fixed) = let e : status ≡ Syntax = fixed.status_is in cc
solved_response wanted lb la tb ta read text status is told end wrote (names_fault at fault fixed) = let e : status ≡ Names = fixed.status_is in cc
solved_response wanted lb la tb ta read text status is told end wrote (sorts_fault at fault fixed) = let e : status ≡ Sorts = fixed.status_is in cc
solved_response wanted lb la tb ta read text status is told end wrote (stopped d s spelled refused fixed) = stop_not_done s (sym fixed.status_is ∙ is)
solved_response wanted lb la tb ta read text status is told end wrote (done d f spelled derived fixed) = record {
  read = read;
  told = told;
  whole = end;
  document = d;
  result = f;
  spelled = spelled;
  written = rw fixed.text_is at wrote;
  accepted = derived.accepted;
  answers = derived.answers;
}

-- a reply with `Done` is an engine's
solved_reply : (left_before left_after taken_before taken_after : Option (List ℕ)) (plan : Plan) (read text : List ℕ) (status : Status)
    → status ≡ Done → Consumes left_before left_after read → IsAtEnd left_after → Appends taken_before taken_after text
    → Replies plan read status text → IsSolved left_before left_after taken_before taken_after
solved_reply lb la tb ta plan read text status is told end wrote (too_long long fixed) = let e : status ≡ TooLong = fixed.status_is in cc
solved_reply lb la tb ta plan read text status is told end wrote (by_method wanted plan_is short reply responds) =
    solved_response wanted lb la tb ta read text status is told end wrote responds

-- a source that was read far enough for an answer with `Done` was read to its end
read_whole : (words : List (List ℕ)) (plan : Plan) (status : Status) (read : List ℕ) (left : Option (List ℕ))
    → status ≡ Done → the_plan words ≡ Some plan → IsReadForAnswer (the_plan words) status read left → IsAtEnd left
read_whole words plan status read left is plan_is enough = rw (plan_is, is) at enough

-- an answer with `Done` is a reply
solved_answer : (words : List (List ℕ)) (left_before left_after taken_before taken_after : Option (List ℕ)) (read text : List ℕ) (status : Status)
    → status ≡ Done → Consumes left_before left_after read → IsReadForAnswer (the_plan words) status read left_after
    → Appends taken_before taken_after text → Answer words read status text
    → IsSolved left_before left_after taken_before taken_after
solved_answer words lb la tb ta read text status is told enough wrote (usage none fixed) = let e : status ≡ Usage = fixed.status_is in cc
solved_answer words lb la tb ta read text status is told enough wrote (planned plan plan_is replies) =
    solved_reply lb la tb ta plan read text status is told (read_whole words plan status read la is plan_is enough) wrote replies

-- what is due with `Done`, and was written, solves the problem
solved_due : (words : List (List ℕ)) (left_before left_after taken_before taken_after : Option (List ℕ)) (old_count new_count : ℕ) (text : List ℕ) (status : Status)
    → status ≡ Done → Appends taken_before taken_after text → IsDue words left_before left_after old_count new_count status text
    → IsSolved left_before left_after taken_before taken_after
solved_due words lb la tb ta oc nc text status is wrote (inl a) = solved_answer words lb la tb ta a.read text status is a.lost a.enough wrote a.answer
solved_due words lb la tb ta oc nc text status is wrote (inr fault) = let e : status ≡ ReadFault = fault.fixed.status_is in cc

-- what is due, and was delivered with `Done`, solves the problem
pub solved : (words : List (List ℕ)) (left_before left_after taken_before taken_after : Option (List ℕ)) (old_left new_left old_taken new_taken : ℕ)
    (due : Status) (text : List ℕ) (status : Status)
    → IsDue words left_before left_after old_left new_left due text → IsDelivered due text taken_before taken_after old_taken new_taken status
    → status ≡ Done → IsSolved left_before left_after taken_before taken_after
solved words lb la tb ta ol nl ot nt due text status is_due (inl whole) is =
    solved_due words lb la tb ta ol nl text due (sym whole.0 ∙ is) whole.1 is_due
solved words lb la tb ta ol nl ot nt due text status is_due (inr cut) is = let e : status ≡ WriteFault = cut.0 in cc
