use Rattle.std.proofs.Common.{◌∙◌, ap, sym, reverse}
use Rattle.std.specs.Option.{unwrap_or}
use Rattle.soqe_text.specs.Lookups.{entered}
use Rattle.soqe_text.specs.Scope.{times}
use Rattle.soqe_text.proofs.Fronts.{entered_none}
use Rattle.soqe_text.proofs.scope.Scope.new.Goals as goal

pub invariant_of-result : goal.invariant_of-result
invariant_of-result c n =
    ap (λ f. unwrap_or (f n) 0) (ap entered c.new-2.ensures.empty ∙ entered_none) ∙ sym (ap (λ xs. times n (reverse xs)) c.new.ensures.items)
