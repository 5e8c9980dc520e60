use Rattle.std.proofs.Common.{take}
use Rattle.std.specs.List.{list_any}
use Rattle.soqe_number.specs.Marks.{Adds}
use Rattle.soqe_form.specs.Mentions.{mentions}
use Rattle.soqe_ack.proofs.params.mark_forms.Given as goal

abbrev pub invariant-loop-form : goal.invariant-loop-form
invariant-loop-form l = Adds (λ n. list_any (λ f. mentions n f) (take l.form-index l.forms)) l.fn.used l.used
