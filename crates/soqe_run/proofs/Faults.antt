-- What a status says of the counts of faults.
use Rattle.std.proofs.Common.{◌≡◌, ◌∙◌, ℕ, List, inl, inr}
use Rattle.std.specs.Prelude.{Option, IsTrue, ◌≢◌}
use Rattle.soqe_run.specs.Outcome.{IsDue, IsDelivered, says_no_read_failed}
use Rattle.soqe_run.specs.declared.status.Status.{Status}
use Rattle.soqe_run.specs.declared.status.Status.TheVariants.{ReadFault, WriteFault}

-- `ReadFault` and `WriteFault` are no such status
not_read_fault : {A : Type 0} (status : Status) → status ≡ ReadFault → IsTrue (says_no_read_failed status) → A
not_read_fault status is says = let none : IsTrue (says_no_read_failed ReadFault) = rw is at says in cc

not_write_fault : {A : Type 0} (status : Status) → status ≡ WriteFault → IsTrue (says_no_read_failed status) → A
not_write_fault status is says = let none : IsTrue (says_no_read_failed WriteFault) = rw is at says in cc

-- a status that says that no read failed comes only with the source's count as before
pub no_read_failed : (words : List (List ℕ)) (left_before left_after taken_before taken_after : Option (List ℕ)) (old_left new_left old_taken new_taken : ℕ)
    (due : Status) (text : List ℕ) (status : Status)
    → IsDue words left_before left_after old_left new_left due text → IsDelivered due text taken_before taken_after old_taken new_taken status
    → IsTrue (says_no_read_failed status) → new_left ≡ old_left
no_read_failed words lb la tb ta ol nl ot nt due text status (inl answer) delivered says = answer.quiet
no_read_failed words lb la tb ta ol nl ot nt due text status (inr fault) (inl whole) says = not_read_fault status (whole.0 ∙ fault.fixed.status_is) says
no_read_failed words lb la tb ta ol nl ot nt due text status (inr fault) (inr cut) says = not_write_fault status cut.0 says

-- a status other than `WriteFault` comes only with the sink's count as before
pub no_write_failed : (due : Status) (text : List ℕ) (before after : Option (List ℕ)) (old_count new_count : ℕ) (status : Status)
    → IsDelivered due text before after old_count new_count status → status ≢ WriteFault → new_count ≡ old_count
no_write_failed due text before after oc nc status (inl whole) other = whole.2
no_write_failed due text before after oc nc status (inr cut) other = absurd (other cut.0)
