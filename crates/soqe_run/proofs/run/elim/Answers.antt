use Rattle.soqe_run.proofs.Due.{due_read}
use Rattle.soqe_run.specs.declared.plan.Plan.TheVariants.{Elim}
use Rattle.soqe_run.proofs.run.elim.Goals as goal

pub returns-in_ok-reply_to-in-Ok : goal.returns-in_ok-reply_to-in-Ok
returns-in_ok-reply_to-in-Ok g c = record {
  due = due_read (Elim c.args.wanted) _ _ _ _ _ _ c.in-Ok.bytes.items c.in-Ok.ensures.bytes c.in-Ok.ensures.end c.in-Ok.ensures.quiet
      (rw c.as_slice.ensures.value at c.in_ok-reply_to-in-Ok.ensures);
  within = c.in-Ok.ensures.within;
  later = c.in-Ok.ensures.later;
}
