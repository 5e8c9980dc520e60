use Rattle.std.proofs.Common.{◌∙◌, ap, sym}
use Rattle.soqe_signature.specs.Scope.{sorts_among}
use Rattle.soqe_text.specs.Lookups.{ByNumber, entered}
use Rattle.soqe_text.proofs.Fronts.{entered_none, none_before}
use Rattle.soqe_text.proofs.form_tables.pred_sorts.Goals as goal

pub loop-n-init : goal.loop-n-init
loop-n-init c = ap ByNumber (ap entered c.new.ensures.empty ∙ entered_none ∙ sym (ap sorts_among (none_before c.args.preds.now)))
