use Rattle.std.proofs.lemmas.Result.{IfOk-weaker}
use Rattle.soqe_text.proofs.SpelledSorted.{spelled_form_sorted}
use Rattle.soqe_text.proofs.reading_form.read_form.Goals as goal

pub returns-in-Ok-clause-sorted : goal.returns-in-Ok-clause-sorted
returns-in-Ok-clause-sorted c =
    IfOk-weaker c.form_of.result _ _ (spelled_form_sorted c.args.sig.now c.args.skolems.now c.args.free.now c.args.preds.now c.args.bytes.now) c.form_of.ensures.found
