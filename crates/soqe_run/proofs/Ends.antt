-- How a run ends where what is due was delivered, whole or cut short.
use Rattle.std.proofs.Common.{ℕ, List, inl, inr, sym, subst}
use Rattle.std.specs.Prelude.{Option}
use Rattle.soqe_run.specs.Outcome.{EndsAs, IsDelivered}
use Rattle.soqe_run.specs.declared.status.Status.{Status}

pub ends_delivered : (due : Status → List ℕ → Type 0) (before after : Option (List ℕ)) (old_count new_count : ℕ) (meant status : Status) (text : List ℕ)
    → due meant text → IsDelivered meant text before after old_count new_count status → EndsAs due before after old_count new_count status
ends_delivered due before after old_count new_count meant status text d (inl whole) = inl record {
  text = text;
  is_due = subst (λ s. due s text) (sym whole.0) d;
  taken = whole.1;
  quiet = whole.2;
}
ends_delivered due before after old_count new_count meant status text d (inr cut) = inr (inl record {
  status_is = cut.0;
  meant = meant;
  text = text;
  is_due = d;
  part = cut.1;
  cause = cut.2;
})
