use Rattle.std.proofs.Common.{◌∙◌, sym, ap, eqb, nat_lt, reverse}
use Rattle.std.specs.List.{list_any}
use Rattle.soqe_text.proofs.Scopes.{any_times}
use Rattle.soqe_text.proofs.scope.Scope.has.Goals as goal

pub returns : goal.returns
returns c =
    ap (nat_lt 0) (c.count_of.ensures ∙ c.self.invariant c.args.num) ∙ sym (any_times c.args.num (reverse c.self.inside.numbers.items))
    ∙ ap (list_any (λ n. eqb n c.args.num)) c.self.view_is
