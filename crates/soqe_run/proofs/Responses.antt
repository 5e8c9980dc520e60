-- How a derivation is answered.
use Rattle.std.proofs.Common.{◌≡◌, ℕ, List, sym, ◌∙◌, subst}
use Rattle.std.specs.Prelude.{IsTrue}
use Rattle.soqe_text.specs.declared.problem.Problem.{Problem}
use Rattle.soqe_text.specs.Spelled.{Spells}
use Rattle.soqe_deriv.specs.declared.document.Document.{Document}
use Rattle.soqe_deriv.specs.declared.document.Stop.{Stop}
use Rattle.soqe_deriv.specs.declared.document.Stop.TheVariants as stop
use Rattle.soqe_deriv.specs.Text.{document_text}
use Rattle.soqe_flow.specs.declared.derivation.Wanted.{Wanted}
use Rattle.soqe_flow.specs.declared.derivation.FlowEnd.{FlowEnd}
use Rattle.soqe_flow.specs.declared.derivation.FlowEnd.TheVariants as flow
use Rattle.soqe_flow.specs.Ordered.{EndsAsOrdered, EndsAsSound}
use Rattle.soqe_run.specs.Reply.{IsFixed, is_reply}
use Rattle.soqe_run.specs.Responds.{Responds, done, stopped, status_of}
use Rattle.soqe_run.specs.declared.status.Status.{Status}
use Rattle.soqe_run.specs.declared.status.Status.TheVariants.{Done}

-- the derivation ends with a result
done_document : (wanted : Wanted) (p : Problem) (d : Document) (status : Status) (text bytes : List ℕ)
    → EndsAsOrdered wanted p (flow.Done d) → EndsAsSound wanted (flow.Done d)
    → IsFixed Done (document_text d) status text → Spells bytes p → Responds wanted bytes status text
done_document wanted p d status text bytes ordered sound fixed spelled =
    let same : d.problem ≡ p = ordered.0 in
    done d ordered.1 (rw same spelled)
    (record { ordered = ordered.2; accepted = (sound ordered.1 ordered.2).0; answers = (sound ordered.1 ordered.2).1 })
    fixed

pub responds_done : (wanted : Wanted) (p : Problem) (end : FlowEnd) (d : Document) (status : Status) (text bytes : List ℕ)
    → end ≡ flow.Done d → EndsAsOrdered wanted p end → EndsAsSound wanted end
    → IsFixed Done (document_text d) status text → Spells bytes p → Responds wanted bytes status text
responds_done wanted p end d status text bytes is ordered sound = done_document wanted p d status text bytes (rw is at ordered) (rw is at sound)

-- the derivation ends with a stop
stopped_document : (wanted : Wanted) (p : Problem) (d : Document) (s : Stop) (status : Status) (text bytes : List ℕ)
    → EndsAsOrdered wanted p (flow.Stopped d s) → EndsAsSound wanted (flow.Stopped d s)
    → IsFixed (status_of s) (document_text d) status text → Spells bytes p → Responds wanted bytes status text
stopped_document wanted p d s status text bytes ordered sound fixed spelled =
    let same : d.problem ≡ p = ordered.0 in
    stopped d s (rw same spelled) (record { ordered = ordered.1; halted = sound }) fixed

pub responds_stopped : (wanted : Wanted) (p : Problem) (end : FlowEnd) (d : Document) (s : Stop) (status : Status) (text bytes : List ℕ)
    → end ≡ flow.Stopped d s → EndsAsOrdered wanted p end → EndsAsSound wanted end
    → IsFixed (status_of s) (document_text d) status text → Spells bytes p → Responds wanted bytes status text
responds_stopped wanted p end d s status text bytes is ordered sound = stopped_document wanted p d s status text bytes (rw is at ordered) (rw is at sound)

-- a stop's status is an engine's
stop_is_reply : (s : Stop) → IsTrue (is_reply (status_of s))
stop_is_reply (stop.Mixed i j) = cc
stop_is_reply (stop.NotReached n) = cc

pub stopped_is_reply : (s : Stop) (due status : Status) (due_text text : List ℕ) → due ≡ status_of s → IsFixed due due_text status text → IsTrue (is_reply status)
stopped_is_reply s due status due_text text e fixed = subst (λ t. IsTrue (is_reply t)) (sym (fixed.status_is ∙ e)) (stop_is_reply s)
